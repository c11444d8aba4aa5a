-- What is kept of closed sessions, whatever events follow: their lists of records, their status.
use Rattle.std.specs.Prelude.{◌≡◌, ◌⊎◌, ℕ, Some, List}
use Rattle.sd_session.specs.declared.status.Status.{Status}
use Rattle.sd_session.specs.declared.status.Status.TheVariants.{Closed as IsClosed, Purged as IsPurged}
use Rattle.sd_machine.specs.declared.event.Event.{Event}
use Rattle.sd_machine.specs.declared.reply.Reply.{Reply}
use Rattle.sd_machine.specs.Machine.{Machine, MachineSession, session_of}
use Rattle.sd_machine.specs.Step.{Run}

-- the machine has this session, with its key and its list of records, whatever its status
pub record HasRecords (m : Machine) (ticket : ℕ) (s : MachineSession) : Type 0 where
  pub session : MachineSession
  pub there : session_of ticket m.sessions ≡ Some session
  pub key_is : session.key ≡ s.key
  pub records_are : session.records ≡ s.records

-- the status of a session that is closed, or of one that was purged
abbrev pub IsClosedOrPurged : Status → Type 0
IsClosedOrPurged status = (status ≡ IsClosed) ⊎ (status ≡ IsPurged)

-- closed sessions of the machine, and purged ones, keep their lists of records
abbrev pub RecordsStay : Machine → Machine → Type 0
RecordsStay old new = (ticket : ℕ) (s : MachineSession)
    → session_of ticket old.sessions ≡ Some s → IsClosedOrPurged s.status → HasRecords new ticket s

-- closed sessions of the machine stay closed, or are purged; purged ones stay purged
pub record EndsStay (old new : Machine) : Type 0 where
  pub closed : (ticket : ℕ) (s : MachineSession) → session_of ticket old.sessions ≡ Some s → s.status ≡ IsClosed
      → (t : MachineSession) × (session_of ticket new.sessions ≡ Some t) × IsClosedOrPurged t.status
  pub purged : (ticket : ℕ) (s : MachineSession) → session_of ticket old.sessions ≡ Some s → s.status ≡ IsPurged
      → (t : MachineSession) × (session_of ticket new.sessions ≡ Some t) × (t.status ≡ IsPurged)

-- Laws.

-- a closed session keeps its list of records, whatever happens afterwards, also when it is purged
abbrev pub ClosedKeepTheirRecords : Type 0
ClosedKeepTheirRecords = (m m' : Machine) (events : List Event) (replies : List Reply) → Run m events replies m' → RecordsStay m m'

-- a closed session stays closed until it is purged, whatever else happens afterwards, and then purged
abbrev pub ClosedKeepTheirStatus : Type 0
ClosedKeepTheirStatus = (m m' : Machine) (events : List Event) (replies : List Reply) → Run m events replies m' → EndsStay m m'
