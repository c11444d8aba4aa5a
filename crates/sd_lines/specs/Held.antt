-- What an event does to the session that a talk opened last.
use Rattle.std.specs.Prelude.{◌≡◌, ◌≢◌, ◌⊎◌, ℕ, ℤ, List, [], ◌∷◌, Option, None, Some, IfSome}
use Rattle.std.specs.Option.{option_or}
use Rattle.sd_base.specs.Record.{Record}
use Rattle.sd_base.specs.declared.refusal.Refusal.{Refusal}
use Rattle.sd_base.specs.declared.refusal.Refusal.TheVariants.{BadCommand, SessionNotOpen, NoSessionNumberLeft, NoDriveOfMedia, NoFreeLane, SpoolFault, Memory}
use Rattle.sd_base.specs.declared.number.SessionKey.{SessionKey}
use Rattle.sd_drive.specs.Receipt.{ReceiptIs}
use Rattle.sd_line.specs.Goes.{GoesOn, IsReceiptOf}
use Rattle.sd_line.specs.Side.{ToldTokenIs}
use Rattle.sd_line.specs.Tells.{ShowsClose}
use Rattle.sd_machine.specs.declared.event.Event.{Event}
use Rattle.sd_machine.specs.declared.event.Event.TheVariants as events
use Rattle.sd_machine.specs.declared.reply.Reply.{Reply}
use Rattle.sd_machine.specs.declared.reply.Reply.TheVariants.{Refused, Opened, Taken, Ended, Closed, Cancelled}
use Rattle.sd_machine.specs.Step.{IsAmong}
use Rattle.sd_line.specs.Parts.{PartIs, with_session}
use Rattle.sd_session.specs.Session.{CancelsSession, EndsSession, EndRefused, IsRunning, NotRunning, SessionView, StartsSession}
use Rattle.sd_session.specs.declared.opening.Opening.{Opening}
use Rattle.sd_span.specs.declared.span.Span.{Span}
use Rattle.sd_session.specs.declared.status.Status.TheVariants.{Closed as IsClosed}
use Rattle.sd_spool.specs.Job.{StoreState}
use Rattle.sd_board.specs.declared.sent.Sent.{Sent}
use Rattle.sd_stations.specs.Sends.{AddRefused, Adds, IsShut, ShutRefused}

-- what a talk has of the session that it opened last: its part, while that goes on; or what its part was at its end
pub record HeldIs : Type 0 where
  pub live : Option PartIs
  pub over : Option PartIs

-- the one of them
abbrev pub last_of : HeldIs → Option PartIs
last_of h = option_or h.live h.over

-- what goes on goes on, and what is over doesn't
pub record IsHeld (h : HeldIs) : Type 0 where
  pub live : IfSome h.live (λ p. IsRunning p.session.status)
  pub over : IfSome h.over (λ p. IsRunning p.session.status → ⊥)

-- the session that was opened last goes on
abbrev pub LastRuns : Option PartIs → Type 0
LastRuns None = ⊥
LastRuns (Some p) = IsRunning p.session.status

-- the records that the session took which was opened last
abbrev pub told_in : Option PartIs → List Record
told_in None = []
told_in (Some p) = p.told

-- the session of this number is the one that was opened last
abbrev pub IsLast : ℕ → Option PartIs → Type 0
IsLast ticket None = ⊥
IsLast ticket (Some p) = p.session.key.id ≡ ticket

-- A session begins with this number at this drive, for this job, pool and media, with its start label of this moment; it took
-- nothing yet.
pub record Begins (job : ℕ) (pool media : List ℕ) (moment : ℤ) (ticket drive : ℕ) (p : PartIs) : Type 0 where
  pub opening : Opening
  pub room : ℕ
  pub limit : ℕ
  pub store : StoreState
  pub starts : StartsSession opening room limit store p.session
  pub job_is : opening.job ≡ job
  pub pool_is : opening.pool ≡ pool
  pub media_is : opening.media ≡ media
  pub moment_is : opening.moment ≡ moment
  pub id_is : opening.key.id ≡ ticket
  pub drive_is : p.seat.no ≡ drive
  pub told_is : p.told ≡ []

-- why no session is opened: no number is left; no drive of the media, or no lane of one is free; out of memory; or its spool can't be
-- cleared
abbrev pub OpenRefused : Refusal → Type 0
OpenRefused why = IsAmong (NoSessionNumberLeft ∷ NoDriveOfMedia ∷ NoFreeLane ∷ Memory ∷ SpoolFault ∷ []) why

-- What an open comes to. While the session opened last goes on it is a bad command. Else a session begins; or it is refused, and the
-- session opened before it is the last.
abbrev pub AnswersOpen : ℕ → List ℕ → List ℕ → ℤ → Reply → Option PartIs → Option PartIs → Type 0
AnswersOpen job pool media moment (Opened ticket drive) old new =
    (LastRuns old → ⊥) × (p : PartIs) × (new ≡ Some p) × Begins job pool media moment ticket drive p
AnswersOpen job pool media moment (Refused why) old new =
    (new ≡ old) × ((LastRuns old × (why ≡ BadCommand)) ⊎ ((LastRuns old → ⊥) × OpenRefused why))
AnswersOpen job pool media moment reply old new = ⊥

-- what a record comes to: it is taken, and is the last of those that were; or it isn't, for one of the causes of that, and the others
-- stay
abbrev pub Appends : Record → Reply → PartIs → PartIs → Type 0
Appends r (Taken count) p q = GoesOn p (r ∷ []) q × Adds p.session r count q.session
Appends r (Refused why) p q = GoesOn p [] q × AddRefused p.session r why q.session
Appends r reply p q = ⊥

-- what an end comes to
abbrev pub Ends : ℤ → Reply → PartIs → PartIs → Type 0
Ends moment Ended p q = EndsSession p.session moment q.session × (q ≡ with_session p q.session)
Ends moment (Refused why) p q = EndRefused p.session why × (q ≡ p)
Ends moment reply p q = ⊥

-- what a close comes to: the session is closed, and no body is left with it; or it isn't, for one of the causes of that
abbrev pub Shuts : Reply → PartIs → PartIs → Type 0
Shuts (Closed key spans) p q = GoesOn p [] q × (key ≡ q.session.key) × IsShut p.session q.session
Shuts (Refused why) p q = GoesOn p [] q × ShutRefused p.session why q.session
Shuts reply p q = ⊥

-- The session is closed by a receipt of its drive, whose spans are told; and this token shows that this was told there, of all that
-- the session's lane had sent.
pub record IsShownClosed {D : Type 0} (key : SessionKey) (spans : List Span) (p : PartIs) (told : Option (ToldTokenIs D)) : Type 0 where
  pub token : ToldTokenIs D
  pub receipt : ReceiptIs
  pub told_is : told ≡ Some token
  pub key_is : key ≡ receipt.key
  pub spans_are : spans ≡ receipt.spans
  pub receipt_is : IsReceiptOf p.session receipt
  pub shows : ShowsClose token p.seat.no p.seat.seat.sent receipt

-- what is shown after a reply: that a session is closed, if that is the reply; and else what was
abbrev pub ShowsReply : {D : Type 0} → Reply → Option PartIs → Option (ToldTokenIs D) → Option (ToldTokenIs D) → Type 0
ShowsReply (Closed key spans) (Some p) old new = IsShownClosed key spans p new
ShowsReply (Closed key spans) None old new = ⊥
ShowsReply reply last old new = new ≡ old

-- and after an event: no other than a close has a session closed
abbrev pub ShowsEvent : {D : Type 0} → Event → Reply → Option PartIs → Option (ToldTokenIs D) → Option (ToldTokenIs D) → Type 0
ShowsEvent (events.Close ticket) reply last old new = ShowsReply reply last old new
ShowsEvent event reply last old new = new ≡ old

-- what a cancel comes to
abbrev pub Cancels : Reply → PartIs → PartIs → Type 0
Cancels Cancelled p q = CancelsSession p.session q.session × (q ≡ with_session p q.session)
Cancels (Refused why) p q = NotRunning p.session why × (q ≡ p)
Cancels reply p q = ⊥

-- why an event of the session of this number is refused, if what is known of the one opened last is what it was at its
-- end
abbrev pub RefusesOver : ℕ → Reply → Option PartIs → Type 0
RefusesOver ticket reply over =
    ((p : PartIs) × (why : Refusal) × (over ≡ Some p) × (p.session.key.id ≡ ticket) × (reply ≡ Refused why) × NotRunning p.session why)
    ⊎ ((IsLast ticket over → ⊥) × (reply ≡ Refused SessionNotOpen))

-- An event of the session of this number does this to its part, if that is the session opened last; else the session isn't
-- open, and nothing changes.
abbrev pub AnswersOwn : (Reply → PartIs → PartIs → Type 0) → ℕ → Reply → Option PartIs → Option PartIs → Type 0
AnswersOwn Does ticket reply old new =
    ((p : PartIs) × (q : PartIs) × (old ≡ Some p) × (p.session.key.id ≡ ticket) × (new ≡ Some q) × Does reply p q)
    ⊎ ((IsLast ticket old → ⊥) × (reply ≡ Refused SessionNotOpen) × (new ≡ old))

-- what an event comes to: an open, or an event of the talk's session; any other is a bad command
abbrev pub AnswersEvent : Event → Reply → Option PartIs → Option PartIs → Type 0
AnswersEvent (events.Open job pool media moment) reply old new = AnswersOpen job pool media moment reply old new
AnswersEvent (events.Append ticket r) reply old new = AnswersOwn (Appends r) ticket reply old new
AnswersEvent (events.End ticket moment) reply old new = AnswersOwn (Ends moment) ticket reply old new
AnswersEvent (events.Close ticket) reply old new = AnswersOwn Shuts ticket reply old new
AnswersEvent (events.Cancel ticket) reply old new = AnswersOwn Cancels ticket reply old new
AnswersEvent event reply old new = (reply ≡ Refused BadCommand) × (new ≡ old)

-- what a line of a console does to the talk's own session: nothing, or it gives it up
abbrev pub GivesUpAtMost : Option PartIs → Option PartIs → Type 0
GivesUpAtMost old new =
    (new ≡ old) ⊎ ((p : PartIs) × (q : PartIs) × (old ≡ Some p) × (new ≡ Some q) × Cancels Cancelled p q)

-- what the end of a talk does to it: it gives it up, if it goes on
abbrev pub GivesUp : Option PartIs → Option PartIs → Type 0
GivesUp old new = GivesUpAtMost old new × (LastRuns new → ⊥)

-- What is on its way to a volume once a session goes on no more: all that it sent, unless it is closed, since then all is placed,
-- or sent nothing.
abbrev pub IsOnItsWay : SessionView → Option Sent → Type 0
IsOnItsWay s None = (s.status ≡ IsClosed) ⊎ (s.sent ≡ 0)
IsOnItsWay s (Some way) = (s.status ≢ IsClosed) × (s.sent ≢ 0) × (way ≡ record { key = s.key; sent = s.sent })
