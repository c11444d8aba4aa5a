-- What a step of the list machine is, and a run of steps.
use Rattle.std.specs.Prelude.{◌≡◌, ◌⊎◌, ℕ, ◌+◌, ◌≤◌, ◌<◌, Some, None, List, [], ◌∷◌, ◌++◌, length}
use Rattle.std.specs.List.{AllByRecursion}
use Rattle.sd_base.specs.Limits.{most_number}
use Rattle.sd_base.specs.Record.{Record}
use Rattle.sd_base.specs.declared.refusal.Refusal.{Refusal}
use Rattle.sd_base.specs.declared.refusal.Refusal.TheVariants.{SessionNotOpen, BadFileIndex, SessionFailed, NotYet, Busy, NoSessionNumberLeft, NoDriveOfMedia, NoFreeLane, DriveOffline, SpoolFault, VolumeNotOnShelf, NotOurVolume, OtherPoolOrMedia, InUse, NotAppendable, AlreadyLabelled, BlocksOfThisRun, NoSuchDrive, NoRoom, DeviceFault, VolumeNotFull, Memory}
use Rattle.sd_label.specs.Cutting.{total_bytes}
use Rattle.sd_machine.specs.declared.event.Event.{Event}
use Rattle.sd_machine.specs.declared.event.Event.TheVariants.{Open, Append, End, Close, Cancel, Spool, Despool, Take, Place, Sync, Label, Adopt, Mount, Unmount, Seek, Retire, Purge, Media}
use Rattle.sd_machine.specs.declared.reply.Reply.{Reply}
use Rattle.sd_machine.specs.declared.reply.Reply.TheVariants.{Refused, Opened, Taken, Ended, Closed, Cancelled, Spooled, SpoolFull, Nothing, NoSpool, Sent, LaneFull, NotDue, InHand, HandFull, Idle, Placed, NeedVolume, VolumeFull, VolumeError, Synced, Labelled, Adopted, Mounted, Unmounted, Requested, NoNeed, Retired, Purged, Media as Spans}
use Rattle.sd_session.specs.declared.status.Status.{Status}
use Rattle.sd_session.specs.declared.status.Status.TheVariants.{Active as IsActive, Ended as IsEnded, Closed as IsClosed, Cancelled as IsCancelled, Failed as IsFailed, Purged as IsPurged}
use Rattle.sd_session.specs.Session.{IsRunning, MayTake, status_refusal}
use Rattle.sd_machine.specs.Machine.{Machine, MachineSession, Strike, session_of, changed, opened, last_index, with_strikes}

-- the ticket's session is this one
abbrev pub HasSession : Machine → ℕ → MachineSession → Type 0
HasSession m ticket s = session_of ticket m.sessions ≡ Some s

-- the session may take the record
abbrev pub SessionMayTake : MachineSession → Record → Type 0
SessionMayTake s r = MayTake (length s.records) (total_bytes s.records) (last_index s.records) r

-- the ticket's session has a status that is allowed, and of it this holds
abbrev pub Meets : (Status → Type 0) → Machine → ℕ → (MachineSession → Type 0) → Type 0
Meets allowed m ticket holds = (s : MachineSession) × HasSession m ticket s × allowed s.status × holds s

-- the status is this one
abbrev pub Is : Status → Status → Type 0
Is wanted status = status ≡ wanted

-- the ticket is unknown, or its session's status keeps the event from it
abbrev pub StatusRefused : (Status → Type 0) → Machine → ℕ → Refusal → Type 0
StatusRefused allowed m ticket why =
    ((session_of ticket m.sessions ≡ None) × (why ≡ SessionNotOpen))
    ⊎ Meets (λ status. allowed status → ⊥) m ticket (λ s. why ≡ status_refusal s.status)

-- it is one of these
abbrev pub IsAmong : {X : Type 0} → List X → X → Type 0
IsAmong [] x = ⊥
IsAmong (y ∷ ys) x = (x ≡ y) ⊎ IsAmong ys x

-- the status refuses the event, or else it is refused for one of these
abbrev pub RefusedFor : List Refusal → (Status → Type 0) → Machine → ℕ → Refusal → Type 0
RefusedFor causes allowed m ticket why = StatusRefused allowed m ticket why ⊎ Meets allowed m ticket (λ s. IsAmong causes why)

-- what an event at a drive may be refused for, besides that the drive isn't there
abbrev pub drive_refusals : Event → List Refusal
drive_refusals (Place drive) = Memory ∷ []
drive_refusals (Sync drive) = DeviceFault ∷ []
drive_refusals (Label drive name pool media moment) =
    OtherPoolOrMedia ∷ InUse ∷ AlreadyLabelled ∷ NoRoom ∷ DeviceFault ∷ Memory ∷ []
drive_refusals (Adopt drive name) =
    AlreadyLabelled ∷ InUse ∷ VolumeNotOnShelf ∷ NotOurVolume ∷ OtherPoolOrMedia ∷ BlocksOfThisRun ∷ DeviceFault ∷ Memory ∷ []
drive_refusals (Mount drive name) = VolumeNotOnShelf ∷ InUse ∷ NotAppendable ∷ OtherPoolOrMedia ∷ DeviceFault ∷ Memory ∷ []
drive_refusals (Unmount drive) = DeviceFault ∷ []
drive_refusals (Seek drive) = VolumeNotOnShelf ∷ DeviceFault ∷ Memory ∷ []
drive_refusals (Retire drive) = InUse ∷ []
drive_refusals (Purge drive name) = VolumeNotOnShelf ∷ VolumeNotFull ∷ InUse ∷ DeviceFault ∷ Memory ∷ []
drive_refusals event = []

-- what an event may be refused for, as far as the machine can see it
abbrev pub MayRefuse : Machine → Event → Refusal → Type 0
MayRefuse m (Open job pool media moment) why =
    ((most_number < m.next) × (why ≡ NoSessionNumberLeft))
    ⊎ ((m.next ≤ most_number) × IsAmong (NoDriveOfMedia ∷ DriveOffline ∷ NoFreeLane ∷ Memory ∷ SpoolFault ∷ []) why)
MayRefuse m (Append ticket r) why =
    StatusRefused (Is IsActive) m ticket why
    ⊎ Meets (Is IsActive) m ticket (λ s. (SessionMayTake s r → ⊥) × (why ≡ BadFileIndex))
    ⊎ Meets (Is IsActive) m ticket (λ s. SessionMayTake s r × IsAmong (Busy ∷ Memory ∷ []) why)
MayRefuse m (End ticket moment) why = RefusedFor (Memory ∷ []) (Is IsActive) m ticket why
MayRefuse m (Close ticket) why = RefusedFor (SessionFailed ∷ NotYet ∷ Memory ∷ []) (Is IsEnded) m ticket why
MayRefuse m (Cancel ticket) why = StatusRefused IsRunning m ticket why
MayRefuse m (Spool ticket) why = RefusedFor (SpoolFault ∷ Memory ∷ []) IsRunning m ticket why
MayRefuse m (Despool ticket) why = RefusedFor (SpoolFault ∷ Memory ∷ []) IsRunning m ticket why
MayRefuse m (Media ticket) why = RefusedFor (DriveOffline ∷ Memory ∷ []) (λ status. Unit {0}) m ticket why
MayRefuse m event why = ((why ≡ NoSuchDrive) ⊎ (why ≡ DriveOffline)) ⊎ IsAmong (drive_refusals event) why

-- From `old` the machine may give this reply to the event and go on to `new`, no session being struck.
-- There is nothing for any other pair of event and reply.
abbrev pub Turns : Machine → Event → Reply → Machine → Type 0
Turns old event (Refused why) new = MayRefuse old event why × (new ≡ old)
Turns old (Open job pool media moment) (Opened ticket drive) new =
    (old.next ≤ most_number) × (ticket ≡ old.next) × (new ≡ opened old)
Turns old (Append ticket r) (Taken n) new = Meets (Is IsActive) old ticket (λ s. SessionMayTake s r
    × (n ≡ length s.records + 1) × (new ≡ changed old (record s { records = s.records ++ r ∷ [] })))
Turns old (End ticket moment) Ended new = Meets (Is IsActive) old ticket (λ s. new ≡ changed old (record s { status = IsEnded }))
Turns old (Close ticket) (Closed key spans) new =
    Meets (Is IsEnded) old ticket (λ s. (key ≡ s.key) × (new ≡ changed old (record s { status = IsClosed })))
Turns old (Cancel ticket) Cancelled new = Meets IsRunning old ticket (λ s. new ≡ changed old (record s { status = IsCancelled }))
Turns old (Spool ticket) reply new = Meets IsRunning old ticket (λ s. new ≡ old) × IsAmong (Spooled ∷ SpoolFull ∷ Nothing ∷ NoSpool ∷ []) reply
Turns old (Despool ticket) reply new = Meets IsRunning old ticket (λ s. new ≡ old) × IsAmong (Sent ∷ LaneFull ∷ Nothing ∷ NotDue ∷ []) reply
Turns old (Take drive) (InHand ticket seq) new = new ≡ old
Turns old (Take drive) HandFull new = new ≡ old
Turns old (Take drive) Idle new = new ≡ old
Turns old (Place drive) (Placed volume start end) new = new ≡ old
Turns old (Place drive) NeedVolume new = new ≡ old
Turns old (Place drive) VolumeFull new = new ≡ old
Turns old (Place drive) VolumeError new = new ≡ old
Turns old (Place drive) Idle new = new ≡ old
Turns old (Sync drive) Synced new = new ≡ old
Turns old (Label drive name pool media moment) Labelled new = new ≡ old
Turns old (Adopt drive name) (Adopted end next) new = new ≡ old
Turns old (Mount drive name) (Mounted mounted) new = (mounted ≡ name) × (new ≡ old)
Turns old (Unmount drive) Unmounted new = new ≡ old
Turns old (Seek drive) (Mounted mounted) new = new ≡ old
Turns old (Seek drive) Requested new = new ≡ old
Turns old (Seek drive) NoNeed new = new ≡ old
Turns old (Retire drive) Retired new = new ≡ old
Turns old (Purge drive name) Purged new = new ≡ old
Turns old (Media ticket) (Spans spans) new = ((s : MachineSession) × HasSession old ticket s) × (new ≡ old)
Turns old event reply new = ⊥

-- each of the strikes gives this status to a session, whose own allows that
abbrev pub StrikeWith : Status → (Status → Type 0) → Machine → List Strike → Type 0
StrikeWith status allowed m strikes =
    AllByRecursion (λ x. (x.status ≡ status) × (s : MachineSession) × HasSession m x.ticket s × allowed s.status) strikes

-- Which sessions a step may strike, and with what: the one whose own spool failed fails; if a device failed to sync, any may
-- that go on; if a volume was purged, or its device failed at that, any may be purged that go on no more; else none.
abbrev pub MayStrike : Machine → Event → Reply → List Strike → Type 0
MayStrike m (Spool ticket) (Refused SpoolFault) strikes = strikes ≡ record { ticket = ticket; status = IsFailed } ∷ []
MayStrike m (Despool ticket) (Refused SpoolFault) strikes = strikes ≡ record { ticket = ticket; status = IsFailed } ∷ []
MayStrike m (Sync drive) (Refused DeviceFault) strikes = StrikeWith IsFailed IsRunning m strikes
MayStrike m (Mount drive name) (Refused DeviceFault) strikes = StrikeWith IsFailed IsRunning m strikes
MayStrike m (Unmount drive) (Refused DeviceFault) strikes = StrikeWith IsFailed IsRunning m strikes
MayStrike m (Seek drive) (Refused DeviceFault) strikes = StrikeWith IsFailed IsRunning m strikes
MayStrike m (Purge drive name) Purged strikes = StrikeWith IsPurged (λ status. IsRunning status → ⊥) m strikes
MayStrike m (Purge drive name) (Refused DeviceFault) strikes = StrikeWith IsPurged (λ status. IsRunning status → ⊥) m strikes
MayStrike m event reply strikes = strikes ≡ []

-- a step, in which these sessions are struck
pub record Step (strikes : List Strike) (old : Machine) (event : Event) (reply : Reply) (new : Machine) : Type 0 where
  pub between : Machine
  pub turns : Turns old event reply between
  pub strike : MayStrike old event reply strikes
  pub new_is : new ≡ with_strikes strikes between

-- a run: a step for each event, with its reply
abbrev pub Run : Machine → List Event → List Reply → Machine → Type 0
Run old [] [] new = new ≡ old
Run old (event ∷ events) (reply ∷ replies) new =
    (strikes : List Strike) × (between : Machine) × Step strikes old event reply between × Run between events replies new
Run old events replies new = ⊥
