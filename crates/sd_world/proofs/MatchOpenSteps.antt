-- A move of the world on an open is a step of the list machine.
use Rattle.std.proofs.Common.{◌≡◌, ℕ, zero, suc, ◌+◌, ◌<◌, ◌≤◌, cond, refl, sym, ap, ap₂, subst, subst₂, ◌∙◌, arith, inl, inr, ℤ, pos, Option, Some, None, List, [], ◌∷◌, ◌++◌, map, append-nil, slice_set}
use Rattle.std.specs.Prelude.{IsTrue}
use Rattle.std.specs.List.{AllByRecursion}
use Rattle.sd_base.specs.Limits.{most_number}
use Rattle.sd_base.specs.declared.number.SessionKey.{SessionKey}
use Rattle.sd_base.specs.declared.refusal.Refusal.{Refusal}
use Rattle.sd_driver.specs.Meaning.{Meaning}
use Rattle.sd_driver.specs.Shelf.{Shelf}
use Rattle.sd_drive.specs.Shelf.{blocks}
use Rattle.sd_drive.specs.View.{DriveIs, items, item_of_piece}
use Rattle.sd_journal.specs.Journal.{Item, with_key}
use Rattle.sd_label.specs.Cutting.{Between}
use Rattle.sd_lane.specs.Queue.{LanesView}
use Rattle.sd_lane.specs.declared.piece.Queued.{Queued}
use Rattle.sd_machine.specs.Machine.{Machine, MachineSession, opened}
use Rattle.sd_machine.specs.Step.{MayRefuse}
use Rattle.sd_machine.specs.declared.event.Event.TheVariants.{Open}
use Rattle.sd_machine.specs.declared.reply.Reply.{Reply}
use Rattle.sd_machine.specs.declared.reply.Reply.TheVariants.{Refused, Opened}
use Rattle.sd_pack.specs.Packing.{Packs}
use Rattle.sd_session.specs.Session.{SessionView, parts_of, store_of, home_of, unused_store, new_spool}
use Rattle.sd_session.specs.declared.status.Status.TheVariants.{Active}
use Rattle.sd_spool.specs.Job.{StoreState}
use Rattle.sd_volume.specs.Image.{Block}
use Rattle.sd_world.specs.Moves.{Moves}
use Rattle.sd_world.specs.Rules.{IsWorld, IsOfOpened}
use Rattle.sd_world.specs.Sessions.{OpensSession, OpensNot, OpenRefused, NoneReserved, next_key}
use Rattle.sd_world.specs.World.{WorldView, WorldSession, BayView, LaneView, IsOnline, session_at, items_before}
use Rattle.sd_world.proofs.Items.{is_key_other, of_opened-front}
use Rattle.sd_world.proofs.Lookups.{session_at-front, session_at-behind, get_set-same, get_set-other}
use Rattle.sd_world.specs.Honest.{StoreIsTrue}
use Rattle.sd_world.specs.Matches.{Matches, SessionMatches, IsHonestAt, sent_bodies, sent_to, queued_bodies, bodies_with}
use Rattle.sd_world.specs.MachineSteps.{StepsTo, newly_struck}
use Rattle.sd_world.proofs.Bodies.{bodies_with-append, bodies_queued}
use Rattle.sd_world.proofs.Striking.{steps, stays}
use Rattle.sd_world.proofs.Frames.{Framed, BayChange, online_after, frame_in_bay}
use Rattle.sd_world.proofs.Sessions.{sessions_more}
use Rattle.sd_world.proofs.TakenStores.{taken_match, taken_unstruck, taken_next, honest_taken, honest_elsewhere}

-- Nothing was sent of a session that isn't opened yet.

unsent_given : (key : SessionKey) (time next : ℕ) (is : List Item) (bs : List (Option Block)) → key.id ≡ next → AllByRecursion (IsOfOpened time next) is → bodies_with key (sent_bodies is bs) ≡ []
unsent_given key time next [] bs id h = refl
unsent_given key time next (i ∷ is) [] id h = refl
unsent_given key time next (i ∷ is) (None ∷ bs) id h = unsent_given key time next is bs id h.1
unsent_given key time next (i ∷ is) (Some b ∷ bs) id h =
    let rest = bodies_with key (sent_bodies is bs) in
    ap (λ c. cond c (record { bytes = b.body; first = i.first; last = i.last } ∷ rest) rest) (is_key_other key i.key (λ e. let below = h.0.id_most in omega (arith, below, e, id)))
    ∙ unsent_given key time next is bs id h.1

unsent_queued : (key : SessionKey) (time next : ℕ) (qs : List Queued) → key.id ≡ next → AllByRecursion (IsOfOpened time next) (map (λ (q : Queued). item_of_piece q.piece) qs) → bodies_with key (bodies_queued qs) ≡ []
unsent_queued key time next [] id h = refl
unsent_queued key time next (q ∷ qs) id h =
    let rest = bodies_with key (bodies_queued qs) in
    ap (λ c. cond c (q.piece.body ∷ rest) rest) (is_key_other key q.piece.key (λ e. let below = h.0.id_most in omega (arith, below, e, id)))
    ∙ unsent_queued key time next qs id h.1

of_opened-back : (time next : ℕ) (is js : List Item) → AllByRecursion (IsOfOpened time next) (is ++ js) → AllByRecursion (IsOfOpened time next) js
of_opened-back time next [] js h = h
of_opened-back time next (i ∷ is) js h = of_opened-back time next is js h.1

unsent : {D : Type 0} (shelf : Shelf) (d : DriveIs D) (queue : LanesView) (key : SessionKey) (time next : ℕ) → key.id ≡ next → AllByRecursion (IsOfOpened time next) (items_before d queue)
    → bodies_with key (sent_to shelf d queue) ≡ []
unsent shelf d queue key time next id h =
    let given = items d.journal d.hand in
    let before = map (λ (q : Queued). item_of_piece q.piece) queue.held in
    bodies_with-append key (sent_bodies given (blocks shelf d.journal d.hand)) (queued_bodies queue)
    ∙ ap₂ (λ xs ys. xs ++ ys) (unsent_given key time next given (blocks shelf d.journal d.hand) id (of_opened-front time next given before h))
    (unsent_queued key time next queue.held id (of_opened-back time next given before h))

-- A session is opened.

-- the new session has the store
started_home : (limit : ℕ) (store : StoreState) → home_of (unused_store limit store) (new_spool limit store) ≡ Some store
started_home zero store = refl
started_home (suc n) store = refl

-- a world in which the session comes after the others, on a drive of which nothing else changed
abbrev OpenedWorld : {D : Type 0} → (old : WorldView D) (job : ℕ) (pool media : List ℕ) (moment : ℤ) (ticket drive : ℕ) (new : WorldView D)
    → OpensSession old job pool media moment ticket drive new → WorldView D
OpenedWorld old job pool media moment ticket drive new o = record old {
  next = old.next + 1;
  sessions = o.sessions ++ record { session = o.session; drive = drive } ∷ [];
  bays = slice_set old.bays o.at (record o.bay {
    drive = Some (record o.d { pool = Some pool; ready = with_key (next_key old) o.d.ready });
    lanes = slice_set o.bay.lanes o.place (record { holder = Some ticket; store = None });
  });
}

open_opened : {D : Type 0} (meaning : D → Meaning) (old new : WorldView D) (job : ℕ) (pool media : List ℕ) (moment : ℤ) (ticket drive : ℕ) (m : Machine) → IsWorld old
    → OpensSession old job pool media moment ticket drive new → Matches meaning old m → StepsTo meaning m old (Open job pool media moment) (Opened ticket drive) new
open_opened {D} meaning old new job pool media moment ticket drive m rules o h =
    let w' : WorldView D = OpenedWorld old job pool media moment ticket drive new o in
    let v = o.session in
    let at = o.at in
    let bay = o.bay in
    let d = o.d in
    let on = o.reserves.online in
    let lane_there = o.reserves.lane_there in
    let f : WorldSession = record { session = v; drive = drive } in
    let d' : DriveIs D = record d { pool = Some pool; ready = with_key (next_key old) d.ready } in
    let new_lane : LaneView = record { holder = Some ticket; store = None } in
    let bay' : BayView D = record bay { drive = Some d'; lanes = slice_set bay.lanes o.place new_lane } in
    let starts = o.starts in
    let key : v.key ≡ record { time = old.limits.time; id = old.next } = ap (λ (x : SessionView). x.key) starts.is in
    let id : v.key.id ≡ old.next = ap (λ (k : SessionKey). k.id) key in
    let store_is : store_of v ≡ Some o.store = ap store_of starts.is ∙ started_home old.limits.spool o.store in
    let front : (t : ℕ) (x : WorldSession) → session_at t o.sessions ≡ Some x → session_at t w'.sessions ≡ Some x = λ t x here. session_at-front t o.sessions (f ∷ []) x here in
    let here : IsHonestAt meaning w' at bay' d' → IsHonestAt meaning old at bay d = λ honest.
    honest_taken meaning old at o.place bay d o.lane o.store o.sessions o.takes rules on.there lane_there
    (subst StoreIsTrue store_is (honest.sessions old.next f (session_at-behind old.next o.sessions f (taken_next old o.lane o.store o.sessions o.takes rules) id) on.number))
    honest.device
    (λ n l apart there. honest.lanes n l (get_set-other bay.lanes o.place n new_lane apart ∙ there))
    (λ t x there. honest.sessions t x (front t x there)) in
    let change : BayChange meaning old w' at bay bay' d d' = record {
      there = on.there;
      online = on.online;
      bays = refl;
      online_now = refl;
      here = here;
      elsewhere = honest_elsewhere meaning old w' at o.place bay o.lane o.store o.sessions o.takes rules on.there lane_there front;
    } in
    let frames : (x : WorldSession) → Framed meaning old w' x = λ x. frame_in_bay meaning old w' at bay bay' d d' x change (λ here honest. refl) (λ here u. u) in
    let made : ℕ → ℕ → SessionKey = λ t i. record { time = t; id = i } in
    let s : MachineSession = record { key = record { time = m.time; id = m.next }; records = []; status = Active } in
    let none : (place : ℕ) (other : BayView D) (z : DriveIs D) → IsOnline w' drive place other z → bodies_with v.key (sent_to (meaning z.device).shelf z other.queue) ≡ [] =
    λ place other z online. elim (online_after old w' drive at bay' d' refl refl place other z online) [
      | inl p ↦ ap₂ (λ (y : DriveIs D) (b : BayView D). bodies_with v.key (sent_to (meaning y.device).shelf y b.queue)) p.2 p.1
          ∙ unsent (meaning d.device).shelf d bay.queue v.key old.limits.time old.next id ((rules.bays at bay on.there).of_opened d on.online)
      | inr p ↦ unsent (meaning z.device).shelf z other.queue v.key old.limits.time old.next id ((rules.bays place other p.1.there).of_opened z p.1.online)
    ] in
    let own : SessionMatches meaning w' f s = record {
      key_is = ap₂ made h.time_is h.next_is ∙ sym key;
      status_is = sym (ap (λ (x : SessionView). x.status) starts.is);
      count_is = sym (ap (λ (x : SessionView). x.count) starts.is);
      bytes_are = sym (ap (λ (x : SessionView). x.bytes) starts.is);
      last_is = sym (ap (λ (x : SessionView). x.last) starts.is);
      bodies_are = λ place other z online honest. subst₂ (λ room l. Packs room (l ++ parts_of v) [] Between) (sym starts.room_is) (sym (none place other z online)) starts.packs;
      closed = λ closed out. cc closed;
    } in
    steps meaning old new m (opened m) (Open job pool media moment) (Opened ticket drive)
    (ap (λ w. newly_struck old.sessions w.sessions) o.new_is ∙ taken_unstruck o.lane old.sessions o.store o.sessions (f ∷ []) o.takes)
    (subst (λ n. n ≤ most_number) (sym h.next_is) o.number_left, o.ticket_is ∙ sym h.next_is, refl) refl
    (subst (λ w. Matches meaning w (opened m)) (sym o.new_is) (record {
      time_is = h.time_is;
      next_is = ap (λ n. n + 1) h.next_is;
      sessions = sessions_more meaning w' f s o.sessions m.sessions own (taken_match meaning old w' m o.lane o.store o.sessions o.takes rules frames h);
    }))

-- No session is opened.

-- the store is as honest as before, where it lies in the lane now
left_honest : {D : Type 0} (old : WorldView D) (pool media : List ℕ) (why : Refusal) (new : WorldView D) → (n : OpensNot old pool media why new) → n.after.honest ≡ n.before.honest
left_honest old pool media why new n = elim n.cause [
  | inl c ↦ ap (λ (s : StoreState). s.honest) c.1
  | inr c ↦ c.2.honest
]

opens_not : {D : Type 0} (meaning : D → Meaning) (old new : WorldView D) (job : ℕ) (pool media : List ℕ) (moment : ℤ) (why : Refusal) (m : Machine) → IsWorld old → old.next ≤ most_number
    → OpensNot old pool media why new → Matches meaning old m → StepsTo meaning m old (Open job pool media moment) (Refused why) new
opens_not {D} meaning old new job pool media moment why m rules low o h =
    let at = o.at in
    let bay = o.bay in
    let d = o.d in
    let es' = o.sessions in
    let takes = o.takes in
    let on = o.reserves.online in
    let lane_there = o.reserves.lane_there in
    let new_lane : LaneView = record o.lane { store = Some o.after } in
    let d' : DriveIs D = record d { ready = with_key (next_key old) d.ready } in
    let bay' : BayView D = record bay { drive = Some d'; lanes = slice_set bay.lanes o.place new_lane } in
    let w' : WorldView D = record old { sessions = es'; bays = slice_set old.bays at bay' } in
    let here : IsHonestAt meaning w' at bay' d' → IsHonestAt meaning old at bay d = λ honest.
    honest_taken meaning old at o.place bay d o.lane o.before es' takes rules on.there lane_there
    (subst IsTrue (left_honest old pool media why new o) (honest.lanes o.place new_lane (get_set-same bay.lanes o.place new_lane o.lane lane_there)))
    honest.device
    (λ n l apart there. honest.lanes n l (get_set-other bay.lanes o.place n new_lane apart ∙ there))
    honest.sessions in
    let change : BayChange meaning old w' at bay bay' d d' = record {
      there = on.there;
      online = on.online;
      bays = refl;
      online_now = refl;
      here = here;
      elsewhere = honest_elsewhere meaning old w' at o.place bay o.lane o.before es' takes rules on.there lane_there (λ t x there. there);
    } in
    let frames : (x : WorldSession) → Framed meaning old w' x = λ x. frame_in_bay meaning old w' at bay bay' d d' x change (λ here honest. refl) (λ here u. u) in
    let may : MayRefuse m (Open job pool media moment) why = inr (
      subst (λ n. n ≤ most_number) (sym h.next_is) low,
      (elim o.cause [
        | inl c ↦ inr (inr (inr (inl c.0)))
        | inr c ↦ inr (inr (inr (inr (inl c.1))))
      ]),
    ) in
    steps meaning old new m m (Open job pool media moment) (Refused why)
    (ap (λ w. newly_struck old.sessions w.sessions) o.new_is ∙ ap (newly_struck old.sessions) (sym (append-nil es')) ∙ taken_unstruck o.lane old.sessions o.before es' [] takes)
    (may, refl) refl
    (subst (λ w. Matches meaning w m) (sym o.new_is) (record {
      time_is = h.time_is;
      next_is = h.next_is;
      sessions = taken_match meaning old w' m o.lane o.before es' takes rules frames h;
    }))

none_reserved : {D : Type 0} (old : WorldView D) (pool media : List ℕ) (why : Refusal) (m : Machine) → m.next ≤ most_number → NoneReserved old pool media why → MayRefuse m (Open 0 pool media (pos 0)) why
none_reserved old pool media why m low (inl c) = inr (low, inl c.1)
none_reserved old pool media why m low (inr (inl c)) = inr (low, inr (inl c.2))
none_reserved old pool media why m low (inr (inr c)) = inr (low, inr (inr (inl c.2)))

open_refused : {D : Type 0} (meaning : D → Meaning) (old new : WorldView D) (job : ℕ) (pool media : List ℕ) (moment : ℤ) (why : Refusal) (m : Machine) → IsWorld old
    → OpenRefused old pool media why new → Matches meaning old m → StepsTo meaning m old (Open job pool media moment) (Refused why) new
open_refused meaning old new job pool media moment why m rules (inl c) h =
    stays meaning old new m (Open job pool media moment) (Refused why) (inl (subst (λ n. most_number < n) (sym h.next_is) c.0, c.1), refl) refl h c.2
open_refused meaning old new job pool media moment why m rules (inr (inl c)) h =
    stays meaning old new m (Open job pool media moment) (Refused why) (none_reserved old pool media why m (subst (λ n. n ≤ most_number) (sym h.next_is) c.0) c.1, refl) refl h c.2
open_refused meaning old new job pool media moment why m rules (inr (inr (inl c))) h = opens_not meaning old new job pool media moment why m rules c.0 c.1 h
open_refused meaning old new job pool media moment why m rules (inr (inr (inr c))) h =
    stays meaning old new m (Open job pool media moment) (Refused why) (inr (subst (λ n. n ≤ most_number) (sym h.next_is) c.0, inr (inr (inr (inl c.1)))), refl) refl h c.4

pub open_steps : {D : Type 0} (meaning : D → Meaning) (old new : WorldView D) (job : ℕ) (pool media : List ℕ) (moment : ℤ) (reply : Reply) (m : Machine) → IsWorld old
    → Moves meaning old (Open job pool media moment) reply new → Matches meaning old m → StepsTo meaning m old (Open job pool media moment) reply new
open_steps meaning old new job pool media moment (Opened ticket drive) m rules moves h = open_opened meaning old new job pool media moment ticket drive m rules moves h
open_steps meaning old new job pool media moment (Refused why) m rules moves h = open_refused meaning old new job pool media moment why m rules moves h
open_steps meaning old new job pool media moment reply m rules moves h = absurd moves
