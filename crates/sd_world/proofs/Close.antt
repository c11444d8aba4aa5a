-- A close is a step of the list machine: nothing of the session is outstanding from then on.
use Rattle.std.proofs.Common.{◌≡◌, ◌≢◌, ◌⊎◌, ℕ, ◌+◌, cond, refl, sym, ap, ap₂, subst, ◌∙◌, arith, inl, inr, Bool, true, false, Some, List, [], ◌∷◌, ◌++◌, map, option_to_list, length, length-append, slice_get, suc}
use Rattle.std.specs.Prelude.{◌&&◌, ◌||◌, not, IsTrue, All}
use Rattle.std.specs.List.{list_any}
use Rattle.std.proofs.lemmas.Bool.{true≢false}
use Rattle.std.proofs.lemmas.List.Elements.{All-nil, All-cons, All-head, All-tail}
use Rattle.sd_base.specs.Key.{is_key}
use Rattle.sd_base.specs.declared.number.SessionKey.{SessionKey}
use Rattle.sd_base.specs.declared.refusal.Refusal.{Refusal}
use Rattle.sd_base.specs.declared.refusal.Refusal.TheVariants.{NotYet}
use Rattle.sd_driver.specs.Meaning.{Meaning}
use Rattle.sd_drive.specs.View.{DriveIs, item_of_piece}
use Rattle.sd_journal.proofs.EntryLemmas.{within, counting}
use Rattle.sd_journal.specs.Journal.{Entry, is_synced, placed_of, synced_of}
use Rattle.sd_journal.specs.declared.mark.Mark.{Mark}
use Rattle.sd_journal.specs.declared.mark.Mark.TheVariants.{Synced}
use Rattle.sd_lane.specs.Queue.{LanesView}
use Rattle.sd_lane.specs.declared.piece.Piece.{Piece}
use Rattle.sd_lane.specs.declared.piece.Queued.{Queued}
use Rattle.sd_machine.specs.Machine.{Machine}
use Rattle.sd_machine.specs.Step.{MayRefuse}
use Rattle.sd_machine.specs.declared.event.Event.TheVariants.{Close}
use Rattle.sd_machine.specs.declared.reply.Reply.{Reply}
use Rattle.sd_machine.specs.declared.reply.Reply.TheVariants.{Refused, Closed}
use Rattle.sd_session.specs.Session.{SessionView, status_refusal, parts_of, store_of}
use Rattle.sd_session.specs.declared.status.Status.TheVariants.{Ended as IsEnded, Closed as IsClosed}
use Rattle.sd_span.specs.declared.span.Span.{Span}
use Rattle.sd_world.specs.Moves.{Moves}
use Rattle.sd_world.specs.Rules.{IsWorld}
use Rattle.sd_world.specs.Sessions.{TicketRefused, ClosesAt, CloseCauses}
use Rattle.sd_world.specs.World.{WorldView, WorldSession, BayView, HasTicket, IsOnline, items_before, items_with}
use Rattle.sd_world.proofs.Items.{length_before}
use Rattle.sd_world.specs.Honest.{StoreIsTrue}
use Rattle.sd_world.specs.Matches.{HasBodies, Matches, IsOutstanding, IsOnTheWay, body_of_piece, bodies_with, queued_bodies}
use Rattle.sd_world.specs.MachineSteps.{StepsTo, NotYetIsOutstanding}
use Rattle.sd_world.proofs.Bodies.{bodies_with-append, bodies_queued}
use Rattle.sd_world.proofs.Changes.{entry_with, session_world, session_step, status_changes}
use Rattle.sd_world.proofs.Striking.{IsUnstruck, stays}
use Rattle.sd_world.proofs.Frames.{online_back, IsUnsettled}
use Rattle.sd_world.proofs.SessionSteps.{found, ticket_refused}

-- Nothing is on the way.

-- as many bodies are a session's as items
length_pieces : (key : SessionKey) (ps : List Piece) → length (bodies_with key (map body_of_piece ps)) ≡ length (items_with key (map item_of_piece ps))
length_pieces key [] = refl
length_pieces key (p ∷ ps) =
    elim (is_key key p.key) as (λ b. length (cond b (p.body ∷ bodies_with key (map body_of_piece ps)) (bodies_with key (map body_of_piece ps)))
    ≡ length (cond b (item_of_piece p ∷ items_with key (map item_of_piece ps)) (items_with key (map item_of_piece ps)))) [
      | true ↦ ap suc (length_pieces key ps)
      | false ↦ length_pieces key ps
    ]

length_queued : (key : SessionKey) (qs : List Queued) → length (bodies_with key (bodies_queued qs)) ≡ length (items_with key (map (λ (q : Queued). item_of_piece q.piece) qs))
length_queued key [] = refl
length_queued key (q ∷ qs) =
    elim (is_key key q.piece.key) as (λ b. length (cond b (q.piece.body ∷ bodies_with key (bodies_queued qs)) (bodies_with key (bodies_queued qs)))
    ≡ length (cond b (item_of_piece q.piece ∷ items_with key (map (λ (x : Queued). item_of_piece x.piece) qs)) (items_with key (map (λ (x : Queued). item_of_piece x.piece) qs)))) [
      | true ↦ ap suc (length_queued key qs)
      | false ↦ length_queued key qs
    ]

no_length : {A : Type 0} (xs : List A) → length xs ≡ 0 → xs ≡ []
no_length [] h = refl
no_length (x ∷ xs) h = absurd (omega (arith, h))

-- if as many blocks are placed as there are pieces, none is on the way
none_on_the_way : {D : Type 0} (d : DriveIs D) (queue : LanesView) (key : SessionKey) → placed_of key d.journal ≡ length (items_with key (items_before d queue)) → IsOnTheWay d queue key → ⊥
none_on_the_way d queue key all way =
    let hand = map body_of_piece (option_to_list d.hand) in
    let a = length_before key d queue in
    let b = ap length (bodies_with-append key hand (queued_bodies queue)) ∙ length-append (bodies_with key hand) (bodies_with key (queued_bodies queue)) in
    let c = length_pieces key (option_to_list d.hand) in
    let e = length_queued key queue.held in
    way (no_length (bodies_with key (hand ++ queued_bodies queue)) (omega (arith, a, b, c, e, all)))

-- Each block is synced.

-- what no test finds
unsynced_none : (key : SessionKey) (es : List Entry) → All (λ e. IsTrue (is_key key e.placement.key) → e.mark ≡ Synced) es
    → list_any (λ (e : Entry). is_key key e.placement.key && not (is_synced e.mark)) es ≡ false
unsynced_none key [] all = refl
unsynced_none key (e ∷ es) all =
    let IsSo : Entry → Type 0 = λ x. IsTrue (is_key key x.placement.key) → x.mark ≡ Synced in
    let own : IsSo e = All-head IsSo e es all in
    let one : (b : Bool) → (b ≡ true → e.mark ≡ Synced) → (b && not (is_synced e.mark)) ≡ false = λ b. elim b as (λ b. (b ≡ true → e.mark ≡ Synced) → (b && not (is_synced e.mark)) ≡ false) [
      | true ↦ λ f. ap (λ m. not (is_synced m)) (f refl)
      | false ↦ λ f. refl
    ] in
    ap₂ (λ a b. a || b) (one (is_key key e.placement.key) own) (unsynced_none key es (All-tail IsSo e es all))

-- and what it finds nowhere is so of none
none_unsynced : (key : SessionKey) (es : List Entry) → list_any (λ (e : Entry). is_key key e.placement.key && not (is_synced e.mark)) es ≡ false
    → All (λ e. IsTrue (is_key key e.placement.key) → e.mark ≡ Synced) es
none_unsynced key [] none = All-nil (λ (e : Entry). IsTrue (is_key key e.placement.key) → e.mark ≡ Synced)
none_unsynced key (e ∷ es) none =
    let first = of_both (is_key key e.placement.key && not (is_synced e.mark)) (list_any (λ (x : Entry). is_key key x.placement.key && not (is_synced x.mark)) es) none in
    All-cons (λ (x : Entry). IsTrue (is_key key x.placement.key) → x.mark ≡ Synced) e es (one (is_key key e.placement.key) e.mark first.0) (none_unsynced key es first.1)
  where
    of_both : (a b : Bool) → (a || b) ≡ false → (a ≡ false) × (b ≡ false)
    of_both true b h = absurd (cc h)
    of_both false b h = (refl, h)

    one : (own : Bool) (m : Mark) → (own && not (is_synced m)) ≡ false → IsTrue own → m ≡ Synced
    one false m h is = absurd (cc is)
    one true Synced h is = refl
    one true m h is = absurd (cc h)

-- if as many blocks are synced as there are pieces, nothing is unsettled
all_settled : {D : Type 0} (d : DriveIs D) (queue : LanesView) (key : SessionKey) → synced_of key d.journal ≡ length (items_with key (items_before d queue)) → IsUnsettled d queue key → ⊥
all_settled d queue key all u =
    let low = within key d.journal in
    let a = length_before key d queue in
    let placed : placed_of key d.journal ≡ length (items_with key (items_before d queue)) = omega (arith, low, a, all) in
    elim u [
      | inl way ↦ none_on_the_way d queue key placed way
      | inr unsynced ↦ true≢false (sym unsynced ∙ unsynced_none key d.journal ((counting key d.journal).whole.0 (all ∙ sym placed)))
    ]

-- one drive of a number
same_bay : {D : Type 0} (w : WorldView D) (drive at at' : ℕ) (bay bay' : BayView D) → drive ≡ at + 1 → slice_get w.bays at ≡ Some bay → drive ≡ at' + 1 → slice_get w.bays at' ≡ Some bay' → bay' ≡ bay
same_bay w drive at at' bay bay' number there number' there' =
    let same : at' ≡ at = omega (arith, number, number') in
    cc (sym there' ∙ ap (slice_get w.bays) same ∙ there)

-- what was sent of a session is before its drive, in its hand or placed
sent_before : {D : Type 0} (w : WorldView D) (ticket at : ℕ) (e : WorldSession) (bay : BayView D) (d : DriveIs D) → IsWorld w → HasTicket w ticket e → IsOnline w e.drive at bay d
    → e.session.sent ≡ length (items_with e.session.key (items_before d bay.queue))
sent_before w ticket at e bay d rules has on =
    let seat = rules.seated ticket e has in
    let seated : seat.bay ≡ bay = same_bay w e.drive at seat.at bay seat.bay on.number on.there seat.drive_is seat.bay_there in
    seat.sent_is d (ap (λ (b : BayView _). b.drive) seated ∙ on.online)
    ∙ ap (λ (b : BayView _). length (items_with e.session.key (items_before d b.queue))) seated

-- if nothing is left of a session by the counts of its drive, nothing is outstanding
none_outstanding : {D : Type 0} (w : WorldView D) (ticket at : ℕ) (e : WorldSession) (bay : BayView D) (d : DriveIs D) → IsWorld w → HasTicket w ticket e → IsOnline w e.drive at bay d
    → parts_of e.session ≡ [] → synced_of e.session.key d.journal ≡ e.session.sent → IsOutstanding w e → ⊥
none_outstanding w ticket at e bay d rules has on none synced (inl parts) = parts none
none_outstanding w ticket at e bay d rules has on none synced (inr out) =
    let there : out.1 ≡ bay = same_bay w e.drive at out.0 bay out.1 on.number on.there out.3.number out.3.there in
    let drive : out.2 ≡ d = cc (sym out.3.online ∙ ap (λ (b : BayView _). b.drive) there ∙ on.online) in
    all_settled d bay.queue e.session.key (synced ∙ sent_before w ticket at e bay d rules has on)
    (subst (λ (z : DriveIs _). IsUnsettled z bay.queue e.session.key) drive (subst (λ (b : BayView _). IsUnsettled out.2 b.queue e.session.key) there out.4))

-- and if something is left, something is
some_outstanding : {D : Type 0} (w : WorldView D) (ticket at : ℕ) (e : WorldSession) (bay : BayView D) (d : DriveIs D) → IsWorld w → HasTicket w ticket e → IsOnline w e.drive at bay d
    → (parts_of e.session ≢ []) ⊎ (synced_of e.session.key d.journal ≢ e.session.sent) → IsOutstanding w e
some_outstanding w ticket at e bay d rules has on (inl parts) = inl parts
some_outstanding w ticket at e bay d rules has on (inr apart) =
    inr (at, bay, d, on, unsettled (list_any (λ (x : Entry). is_key e.session.key x.placement.key && not (is_synced x.mark)) d.journal) refl)
  where
    unsettled : (b : Bool) → list_any (λ (x : Entry). is_key e.session.key x.placement.key && not (is_synced x.mark)) d.journal ≡ b → IsUnsettled d bay.queue e.session.key
    unsettled true is = inr is
    unsettled false is = inl (λ none.
        let own = e.session.key in
        let hand = map body_of_piece (option_to_list d.hand) in
        let a = length_before own d bay.queue in
        let b = ap length (bodies_with-append own hand (queued_bodies bay.queue)) ∙ length-append (bodies_with own hand) (bodies_with own (queued_bodies bay.queue)) in
        let c = length_pieces own (option_to_list d.hand) in
        let q = length_queued own bay.queue.held in
        let zero : length (bodies_with own (hand ++ queued_bodies bay.queue)) ≡ 0 = ap length none in
        let whole = (counting own d.journal).whole.1 (none_unsynced own d.journal is) in
        let sent = sent_before w ticket at e bay d rules has on in
        apart (omega (arith, a, b, c, q, zero, whole, sent)))

-- nothing of a session that is closed is outstanding
closed_settled : {D : Type 0} (old : WorldView D) (ticket : ℕ) (key : SessionKey) (spans : List Span) (new : WorldView D) → (c : ClosesAt old ticket key spans new) → IsWorld old
    → IsOutstanding (session_world old c.e c.session) (entry_with c.e c.session) → ⊥
closed_settled old ticket key spans new c rules out =
    none_outstanding old ticket c.at c.e c.bay c.d rules c.has c.online c.closes.may.none_left c.closes.may.all_synced (elim out [
      | inl parts ↦ inl (λ none. parts (ap parts_of c.closes.is ∙ none))
      | inr o ↦ inr (
        o.0,
        o.1,
        o.2,
        online_back old (session_world old c.e c.session) refl c.e.drive o.0 o.1 o.2 o.3,
        subst (IsUnsettled o.2 o.1.queue) (ap (λ (x : SessionView). x.key) c.closes.is) o.4,
      )
    ])

-- The answer.

-- why a close of an ended session is refused, whose drive lost none of its blocks
by_cause : {D : Type 0} (w : WorldView D) (ticket : ℕ) (e : WorldSession) (why : Refusal) → IsWorld w → HasTicket w ticket e → e.session.status ≡ IsEnded
    → CloseCauses w why e → ((why ≡ NotYet) × IsOutstanding w e) ⊎ ((why ≢ NotYet) × (IsOutstanding w e → ⊥))
by_cause w ticket e why rules has ended (inl c) = absurd (c.0 ended)
by_cause w ticket e why rules has ended (inr (is, at, bay, d, on, inl (inl r))) = absurd (r.0 ended)
by_cause w ticket e why rules has ended (inr (is, at, bay, d, on, inl (inr (inl r)))) =
    let seat = rules.seated ticket e has in
    let seated : seat.bay ≡ bay = same_bay w e.drive at seat.at bay seat.bay on.number on.there seat.drive_is seat.bay_there in
    absurd (true≢false (sym r.1 ∙ seat.lost_none (inr ended) d (ap (λ (b : BayView _). b.drive) seated ∙ on.online)))
by_cause w ticket e why rules has ended (inr (is, at, bay, d, on, inl (inr (inr r)))) = inl (r.3, some_outstanding w ticket at e bay d rules has on r.2)
by_cause w ticket e why rules has ended (inr (is, at, bay, d, on, inr r)) =
    inr ((λ other. cc (other, r.1)), none_outstanding w ticket at e bay d rules has on r.0.1.may.none_left r.0.1.may.all_synced)

-- a session of a ticket is one
one_session : {D : Type 0} (w : WorldView D) (ticket : ℕ) (e f : WorldSession) → HasTicket w ticket e → HasTicket w ticket f → f ≡ e
one_session w ticket e f has there = cc (sym there ∙ has)

pub not_yet : {D : Type 0} → NotYetIsOutstanding D
not_yet meaning old new ticket (Closed key spans) e rules c has ended =
    let same : c.e ≡ e = one_session old ticket e c.e has c.has in (
      (λ is. absurd (cc is)),
      (λ out. absurd (none_outstanding old ticket c.at c.e c.bay c.d rules c.has c.online c.closes.may.none_left c.closes.may.all_synced (subst (IsOutstanding old) (sym same) out))),
    )
not_yet meaning old new ticket (Refused why) e rules m has ended = elim m.0 [
  | inl t ↦ absurd (cc (sym t.0 ∙ has))
  | inr t ↦ elim (by_cause old ticket e why rules has ended (subst (CloseCauses old why) (one_session old ticket e t.0 has t.1) t.2)) [
    | inl c ↦ ((λ is. c.1), (λ out. ap Refused c.0))
    | inr c ↦ ((λ is. absurd (c.0 (cc is))), (λ out. absurd (c.1 out)))
  ]
]
not_yet meaning old new ticket reply e rules m has ended = absurd m

-- The step.

close_closed : {D : Type 0} (meaning : D → Meaning) (old new : WorldView D) (ticket : ℕ) (key : SessionKey) (spans : List Span) (m : Machine) → IsWorld old
    → ClosesAt old ticket key spans new → Matches meaning old m → StepsTo meaning m old (Close ticket) (Closed key spans) new
close_closed meaning old new ticket key spans m rules c h =
    let e = c.e in
    let v = c.session in
    let is = c.closes.is in
    let f = found meaning old m ticket e h c.has in
    let s = f.session in
    session_step meaning old new m ticket e v s (record s { status = IsClosed }) (Close ticket) (Closed key spans) rules h c.has f.matches c.new_is
    (subst IsUnstruck (sym (ap (λ (x : SessionView). x.status) is)) (refl, refl))
    (subst StoreIsTrue (ap store_of is))
    (status_changes meaning old e v s IsClosed (ap (λ (x : SessionView). x.key) is) (ap (λ (x : SessionView). x.status) is) (ap (λ (x : SessionView). x.count) is)
    (ap (λ (x : SessionView). x.bytes) is) (ap (λ (x : SessionView). x.last) is)
    (λ sent b. subst (λ (x : SessionView). HasBodies x.packer.room sent (sent ++ parts_of x) IsClosed s.records) (sym is)
    (subst (λ status. HasBodies e.session.packer.room sent (sent ++ parts_of e.session) status s.records) (f.matches.status_is ∙ c.closes.may.ended) b))
    f.matches)
    (λ closed out. closed_settled old ticket key spans new c rules out)
    (s, f.there, f.matches.status_is ∙ c.closes.may.ended, (c.key_is ∙ sym f.matches.key_is, refl))
    refl

close_refused : {D : Type 0} (meaning : D → Meaning) (old : WorldView D) (ticket : ℕ) (why : Refusal) (m : Machine)
    → TicketRefused old ticket why (CloseCauses old why) → Matches meaning old m → MayRefuse m (Close ticket) why
close_refused meaning old ticket why m refused h =
    ticket_refused meaning (MayRefuse m (Close ticket) why) old m ticket why (CloseCauses old why) h
    (λ none is. inl (inl (none, is)))
    (λ e s there match causes. elim causes [
      | inl c ↦ inl (inr (s, there, (λ ended. c.0 (sym match.status_is ∙ ended)), c.1 ∙ ap status_refusal (sym match.status_is)))
      | inr c ↦ inr (
        s,
        there,
        match.status_is ∙ c.0,
        (elim c.5 [
          | inl (inl r) ↦ absurd (r.0 c.0)
          | inl (inr (inl r)) ↦ inl r.2
          | inl (inr (inr r)) ↦ inr (inl r.3)
          | inr r ↦ inr (inr (inl r.1))
        ]),
      )
    ])
    refused

pub close_steps : {D : Type 0} (meaning : D → Meaning) (old new : WorldView D) (ticket : ℕ) (reply : Reply) (m : Machine) → IsWorld old
    → Moves meaning old (Close ticket) reply new → Matches meaning old m → StepsTo meaning m old (Close ticket) reply new
close_steps meaning old new ticket (Closed key spans) m rules moves h = close_closed meaning old new ticket key spans m rules moves h
close_steps meaning old new ticket (Refused why) m rules moves h =
    stays meaning old new m (Close ticket) (Refused why) (close_refused meaning old ticket why m moves.0 h, refl) refl h moves.1
close_steps meaning old new ticket reply m rules moves h = absurd moves
