-- What an event of a talk's session says of the records that it took.
use Rattle.std.proofs.Common.{◌≡◌, ℕ, ℤ, ◌-◌, refl, sym, ap, subst, ◌∙◌, inl, inr, List, [], ◌∷◌, ◌++◌}
use Rattle.std.proofs.lemmas.List.{append-nil}
use Rattle.std.specs.Prelude.{IfErr, IfSome, OnOk, Option, Some, None, Result, Ok, Err}
use Rattle.std.specs.Option.{option_or}
use Rattle.sd_append.specs.Port.{Exchange, Stepped}
use Rattle.sd_base.specs.Record.{Record}
use Rattle.sd_base.specs.declared.number.SessionKey.{SessionKey}
use Rattle.sd_base.specs.declared.refusal.Refusal.{Refusal}
use Rattle.sd_base.specs.Limits.{block_header}
use Rattle.sd_base.specs.declared.refusal.Refusal.TheVariants.{Memory, SessionCancelled, SessionNotOpen}
use Rattle.sd_drive.specs.Receipt.{ReceiptIs}
use Rattle.sd_board.specs.Board.{BoardIs}
use Rattle.sd_board.specs.Opening.{ChoosesNone}
use Rattle.sd_board.specs.declared.seen.DriveSeen.{DriveSeen}
use Rattle.sd_drive.specs.declared.limits.Limits.{Limits}
use Rattle.sd_line.specs.Goes.{GoesOn, IsReceiptOf}
use Rattle.sd_machine.specs.declared.event.Event.{Event}
use Rattle.sd_machine.specs.declared.event.Event.TheVariants as events
use Rattle.sd_machine.specs.declared.reply.Reply.{Reply}
use Rattle.sd_machine.specs.declared.reply.Reply.TheVariants.{Refused, Opened, Taken, Ended, Closed, Cancelled}
use Rattle.sd_lane.specs.declared.piece.Piece.{Piece}
use Rattle.sd_line.specs.Ends.{EndIs}
use Rattle.sd_line.specs.Parts.{OpensAt, OpensNoPart, OpensNotAt, PartIs, PreparedIs, Prepares, with_session}
use Rattle.sd_line.specs.Side.{LineIs, ToldTokenIs}
use Rattle.sd_line.specs.Tells.{ShowsClose}
use Rattle.sd_session.specs.declared.opening.Opening.{Opening}
use Rattle.sd_session.specs.Session.{CancelsSession, IsRunning, NotRunning, SessionView, status_refusal}
use Rattle.sd_session.specs.declared.status.Status.TheVariants.{Cancelled as IsCancelled, Ended as IsEnded}
use Rattle.sd_span.specs.declared.span.Span.{Span}
use Rattle.sd_stations.specs.Sends.{IsShut}
use Rattle.sd_lines.specs.Opening.{IsNumbered}
use Rattle.sd_lines.specs.Held.{AnswersEvent, AnswersOpen, AnswersOwn, Appends, Begins, Cancels, Ends, GivesUp, GivesUpAtMost, IsShownClosed, LastRuns, OpenRefused, RefusesOver, Shuts, ShowsReply, told_in}
use Rattle.sd_lines.specs.Taken.{taken_behind, taken_by, taken_last}
use Rattle.sd_lines.proofs.TakenLemmas.{taken_more}

-- a refusal takes nothing
refused_none : (reply : Reply) (why : Refusal) (event : Event) (so_far : List Record) → reply ≡ Refused why → taken_by reply event so_far ≡ so_far
refused_none reply why event so_far is = rw is refl

-- the part that goes on and takes nothing
told_same : (p q : PartIs) → GoesOn p [] q → q.told ≡ p.told
told_same p q g = g.told_is ∙ append-nil p.told

told_with : (p q : PartIs) → q ≡ with_session p q.session → q.told ≡ p.told
told_with p q is = ap (λ (x : PartIs). x.told) is

told_equal : (p q : PartIs) → q ≡ p → q.told ≡ p.told
told_equal p q is = ap (λ (x : PartIs). x.told) is

-- what an event does to a part
abbrev Doing : Type 1
Doing = Reply → PartIs → PartIs → Type 0

own_told : (Does : Doing) (ticket : ℕ) (event : Event) (reply : Reply) (old new : Option PartIs)
    → ((p q : PartIs) → Does reply p q → q.told ≡ taken_by reply event p.told) → AnswersOwn Does ticket reply old new
    → told_in new ≡ taken_by reply event (told_in old)
own_told Does ticket event reply old new each (inl a) =
    ap told_in a.4 ∙ each a.0 a.1 a.5 ∙ ap (taken_by reply event) (sym (ap told_in a.2))
own_told Does ticket event reply old new each (inr a) =
    ap told_in a.2 ∙ sym (refused_none reply _ event (told_in old) a.1)

appends_told : (ticket : ℕ) (r : Record) (reply : Reply) (p q : PartIs) → Appends r reply p q → q.told ≡ taken_by reply (events.Append ticket r) p.told
appends_told ticket r (Taken count) p q a = a.0.told_is
appends_told ticket r (Refused why) p q a = told_same p q a.0
appends_told ticket r reply p q a = absurd a

ends_told : (ticket : ℕ) (moment : ℤ) (reply : Reply) (p q : PartIs) → Ends moment reply p q → q.told ≡ taken_by reply (events.End ticket moment) p.told
ends_told ticket moment Ended p q a = told_with p q a.1
ends_told ticket moment (Refused why) p q a = told_equal p q a.1
ends_told ticket moment reply p q a = absurd a

shuts_told : (ticket : ℕ) (reply : Reply) (p q : PartIs) → Shuts reply p q → q.told ≡ taken_by reply (events.Close ticket) p.told
shuts_told ticket (Closed key spans) p q a = told_same p q a.0
shuts_told ticket (Refused why) p q a = told_same p q a.0
shuts_told ticket reply p q a = absurd a

cancels_told : (ticket : ℕ) (reply : Reply) (p q : PartIs) → Cancels reply p q → q.told ≡ taken_by reply (events.Cancel ticket) p.told
cancels_told ticket Cancelled p q a = told_with p q a.1
cancels_told ticket (Refused why) p q a = told_equal p q a.1
cancels_told ticket reply p q a = absurd a

opens_told : (job : ℕ) (pool media : List ℕ) (moment : ℤ) (event : Event) (reply : Reply) (old new : Option PartIs)
    → AnswersOpen job pool media moment reply old new → told_in new ≡ taken_by reply event (told_in old)
opens_told job pool media moment event (Opened ticket drive) old new a = ap told_in a.2 ∙ a.3.told_is
opens_told job pool media moment event (Refused why) old new a = ap told_in a.0
opens_told job pool media moment event reply old new a = absurd a

-- an event that no talk gives
bad_told : (event : Event) (reply : Reply) (why : Refusal) (old new : Option PartIs) → reply ≡ Refused why → new ≡ old
    → told_in new ≡ taken_by reply event (told_in old)
bad_told event reply why old new is same = ap told_in same ∙ sym (refused_none reply why event (told_in old) is)

told_by : (event : Event) (reply : Reply) (old new : Option PartIs) → AnswersEvent event reply old new → told_in new ≡ taken_by reply event (told_in old)
told_by (events.Open job pool media moment) reply old new a = opens_told job pool media moment _ reply old new a
told_by (events.Append ticket r) reply old new a = own_told (Appends r) ticket _ reply old new (appends_told ticket r reply) a
told_by (events.End ticket moment) reply old new a = own_told (Ends moment) ticket _ reply old new (ends_told ticket moment reply) a
told_by (events.Close ticket) reply old new a = own_told Shuts ticket _ reply old new (shuts_told ticket reply) a
told_by (events.Cancel ticket) reply old new a = own_told Cancels ticket _ reply old new (cancels_told ticket reply) a
told_by event reply old new a = bad_told event reply _ old new a.0 a.1

-- So a port keeps what it keeps, after an event,

pub keeps_stepped : (asked : List Exchange) (event : Event) (reply : Reply) (old new : Option PartIs) → told_in old ≡ taken_last asked → AnswersEvent event reply old new
    → told_in new ≡ taken_last (asked ++ Stepped event reply ∷ [])
keeps_stepped asked event reply old new keeps a =
    told_by event reply old new a ∙ ap (taken_by reply event) keeps ∙ sym (taken_more [] asked (Stepped event reply))

-- and after what takes no record.

pub keeps_still : (asked : List Exchange) (x : Exchange) (old new : Option PartIs) → told_in old ≡ taken_last asked → told_in new ≡ told_in old
    → ((so_far : List Record) → taken_behind x so_far ≡ so_far) → told_in new ≡ taken_last (asked ++ x ∷ [])
keeps_still asked x old new keeps same none = same ∙ keeps ∙ sym (none (taken_last asked)) ∙ sym (taken_more [] asked x)

-- a line of a console takes none

pub gives_up_told : (old new : Option PartIs) → GivesUpAtMost old new → told_in new ≡ told_in old
gives_up_told old new (inl same) = ap told_in same
gives_up_told old new (inr a) = ap told_in a.3 ∙ told_with a.0 a.1 a.4.1 ∙ sym (ap told_in a.2)

-- a cancel that isn't refused gives the session up

gives_up : (reply : Reply) (p q : PartIs) → ((why : Refusal) → reply ≡ Refused why → ⊥) → Cancels reply p q → Cancels Cancelled p q
gives_up Cancelled p q none a = a
gives_up (Refused why) p q none a = absurd (none why refl)
gives_up reply p q none a = absurd a

pub cancelled_own : (ticket : ℕ) (reply : Reply) (old new : Option PartIs) → ((why : Refusal) → reply ≡ Refused why → ⊥) → AnswersOwn Cancels ticket reply old new
    → GivesUpAtMost old new
cancelled_own ticket reply old new none (inl a) = inr (a.0, a.1, a.2, a.4, gives_up reply a.0 a.1 none a.5)
cancelled_own ticket reply old new none (inr a) = absurd (none SessionNotOpen a.1)

-- a session is closed, whose key its receipt has

pub shuts_by : {p q : PartIs} {receipt : ReceiptIs} {key : SessionKey} (spans : List Span) → key ≡ receipt.key → GoesOn p [] q → IsReceiptOf q.session receipt
    → IsShut p.session q.session → Shuts (Closed key spans) p q
shuts_by spans key_is goes_on of shut = (goes_on, key_is ∙ of.key_is, shut)

-- which is shown by what the drive gave with the receipt

pub shows_by : {D : Type 0} {p : PartIs} {receipt : ReceiptIs} {key : SessionKey} {spans : List Span} {token : ToldTokenIs D} {new : Option (ToldTokenIs D)}
    → key ≡ receipt.key → IsReceiptOf p.session receipt → spans ≡ receipt.spans → ShowsClose token p.seat.no p.seat.seat.sent receipt → new ≡ Some token
    → IsShownClosed key spans p new
shows_by {receipt = receipt} {token = token} key_is of spans_are shows is =
    record { token = token; receipt = receipt; told_is = is; key_is = key_is; spans_are = spans_are; receipt_is = of; shows = shows }

-- a refusal leaves what is shown

pub shows_refused : {D : Type 0} (reply : Reply) (why : Refusal) (last : Option PartIs) (told : Option (ToldTokenIs D)) → reply ≡ Refused why → ShowsReply reply last told told
shows_refused reply why last told is = rw is refl

pub shows_over : {D : Type 0} (ticket : ℕ) (reply : Reply) (last over : Option PartIs) (told : Option (ToldTokenIs D)) → RefusesOver ticket reply over → ShowsReply reply last told told
shows_over ticket reply last over told (inl a) = shows_refused reply a.1 last told a.4
shows_over ticket reply last over told (inr a) = shows_refused reply SessionNotOpen last told a.1

-- a session with its end label stays as it was without room for its receipt

pub shuts_not : (p : PartIs) → p.session.status ≡ IsEnded → Shuts (Refused Memory) p p
shuts_not p ended = (
  record { more = []; seat_is = ap (λ (l : List Piece). record p.seat { seat = record p.seat.seat { sent = l } }) (sym (append-nil p.seat.seat.sent)); before_is = refl; whole_is = refl; told_is = sym (append-nil p.told); key_is = refl },
  inr (inl (ended, record { running = inr ended; is = refl; room_is = refl; open_is = refl }, inr refl)),
)

-- A talk's session goes on, or none does.

pub runs_live : (live over : Option PartIs) (p : PartIs) → live ≡ Some p → IsRunning p.session.status → LastRuns (option_or live over)
runs_live live over p is running = subst (λ (l : Option PartIs). LastRuns (option_or l over)) (sym is) running

pub runs_not : (live over : Option PartIs) → live ≡ None → IfSome over (λ (p : PartIs). IsRunning p.session.status → ⊥) → LastRuns (option_or live over) → ⊥
runs_not live (Some p) is stopped runs = stopped (subst (λ (l : Option PartIs). LastRuns (option_or l (Some p))) is runs)
runs_not live None is stopped runs = subst (λ (l : Option PartIs). LastRuns (option_or l None)) is runs

-- A session that went on is given up at the end of its talk.

pub gone_by : {T : Type 0} (p q : PartIs) (result : Result T Refusal) → IsRunning p.session.status → q ≡ with_session p q.session
    → OnOk result (CancelsSession p.session q.session) → IfErr result (λ why. NotRunning p.session why) → Cancels Cancelled p q
gone_by p q (Ok done) runs same ok why = (ok, same)
gone_by p q (Err why) runs same ok not = absurd (not.0 runs)

never_runs : IsRunning IsCancelled → ⊥
never_runs (inl is) = absurd (cc is)
never_runs (inr is) = absurd (cc is)

pub gone_runs_not : (p q : PartIs) → Cancels Cancelled p q → NotRunning q.session SessionCancelled
gone_runs_not p q a =
    let is : q.session.status ≡ IsCancelled = ap (λ (s : SessionView). s.status) a.0.is in
    (λ runs. never_runs (subst IsRunning is runs), ap status_refusal (sym is))

pub gives_up_live : (live over : Option PartIs) (p q : PartIs) → live ≡ Some p → Cancels Cancelled p q → GivesUp (option_or live over) (Some q)
gives_up_live live over p q is a =
    (inr (p, q, ap (λ (l : Option PartIs). option_or l over) is, refl, a), (gone_runs_not p q a).0)

pub gives_up_none : (live over : Option PartIs) → live ≡ None → IfSome over (λ (p : PartIs). IsRunning p.session.status → ⊥) → GivesUp (option_or live over) over
gives_up_none live (Some p) is stopped = (inl (sym (ap (λ (l : Option PartIs). option_or l (Some p)) is)), stopped)
gives_up_none live None is stopped = (inl (sym (ap (λ (l : Option PartIs). option_or l None) is)), λ runs. runs)

-- An open.

-- the number that a prepared session has is one under which it may be

pub numbered_so : (p : PreparedIs) (ticket : ℕ) → p.opening.key.id ≡ ticket → IsNumbered ticket p p
numbered_so p ticket is = ap (λ (n : ℕ). record p { opening = record p.opening { key = record p.opening.key { id = n } } }) is

-- and so is another

pub numbered_anew : (first old new : PreparedIs) (ticket next : ℕ) → IsNumbered ticket first old → IsNumbered next old new → IsNumbered next first new
numbered_anew first old new ticket next was is =
    is ∙ ap (λ (x : PreparedIs). record x { opening = record x.opening { key = record x.opening.key { id = next } } }) was

-- one that came of numbering is so numbered

pub numbered_in : (given : Option (ℕ × PreparedIs)) (old : PreparedIs) (ticket : ℕ) (new : PreparedIs) → given ≡ Some (ticket, new)
    → IfSome given (λ g. IsNumbered g.0 old g.1) → IsNumbered ticket old new
numbered_in given old ticket new is numbered = subst (λ o. IfSome o (λ g. IsNumbered g.0 old g.1)) is numbered

-- a session that was prepared for this at the end of a lane of this drive, and numbered, begins
pub begins : {line : LineIs} {id : ℕ} {job : ℕ} {pool media : List ℕ} {moment : ℤ} {e : EndIs} {drive : ℕ} {made given : PreparedIs} {ticket : ℕ} {p : PartIs}
    → Prepares line id job pool moment e made → line.media ≡ media → e.seat.no ≡ drive → IsNumbered ticket made given → OpensAt given.limits given.opening given.end p
    → Begins job pool media moment ticket drive p
begins {line = line} {id = id} {job = job} {pool = pool} {moment = moment} {e = e} {made = made} {given = given} {ticket = ticket} {p = p} prepares media_is home numbered opens =
    let opening = ap (λ (x : PreparedIs). x.opening) numbered in
    let made_is = prepares.opening_is in
    record {
      opening = given.opening;
      room = given.limits.block - block_header;
      limit = given.limits.spool;
      store = opens.store;
      starts = opens.starts;
      job_is = ap (λ (o : Opening). o.job) opening ∙ ap (λ (o : Opening). o.job) made_is;
      pool_is = ap (λ (o : Opening). o.pool) opening ∙ ap (λ (o : Opening). o.pool) made_is;
      media_is = ap (λ (o : Opening). o.media) opening ∙ ap (λ (o : Opening). o.media) made_is ∙ media_is;
      moment_is = ap (λ (o : Opening). o.moment) opening ∙ ap (λ (o : Opening). o.moment) made_is;
      id_is = ap (λ (o : Opening). o.key.id) opening;
      drive_is = ap (λ (x : PartIs). x.seat.no) opens.is ∙ ap (λ (x : PreparedIs). x.end.seat.no) numbered ∙ ap (λ (x : EndIs). x.seat.no) prepares.brings.is ∙ home;
      told_is = ap (λ (x : PartIs). x.told) opens.is;
    }

-- Why none begins.

pub not_chosen : (b : BoardIs) (seen : List DriveSeen) (pool media : List ℕ) (why : Refusal) → ChoosesNone b seen pool media why → OpenRefused why
not_chosen b seen pool media why (inl t) = inl t.1
not_chosen b seen pool media why (inr (inl t)) = elim t.1 [
  | inl none ↦ inr (inl none.1)
  | inr none ↦ inr (inr (inl none.2))
]
not_chosen b seen pool media why (inr (inr t)) = inr (inr (inr (inl t.1)))

pub not_made : (limits : Limits) (e : EndIs) (why : Refusal) (back : EndIs) → OpensNotAt limits e why back → OpenRefused why
not_made limits e why back t = elim t.cause [
  | inl memory ↦ inr (inr (inr (inl memory.0)))
  | inr fault ↦ inr (inr (inr (inr (inl fault.1))))
]

pub not_prepared : (line : LineIs) (e : EndIs) (why : Refusal) (back : EndIs) → OpensNoPart line e why back → OpenRefused why
not_prepared line e why back t = not_made line.limits t.between why back t.opens_not

-- no session of the talk went on, and one begins
pub opens : (job : ℕ) (pool media : List ℕ) (moment : ℤ) (ticket drive : ℕ) (old new : Option PartIs) (p : PartIs) → (LastRuns old → ⊥) → new ≡ Some p
    → Begins job pool media moment ticket drive p → AnswersOpen job pool media moment (Opened ticket drive) old new
opens job pool media moment ticket drive old new p stopped is begins = (stopped, p, is, begins)
