-- The list machine: sessions that only append to their own lists. It has no blocks, volumes, drives or queues.
use Rattle.std.specs.Prelude.{ℕ, ◌+◌, ◌==◌, if◌then◌else◌, Option, Some, None, List, [], ◌∷◌, ◌++◌, map}
use Rattle.sd_base.specs.Record.{Record}
use Rattle.sd_base.specs.declared.number.SessionKey.{SessionKey}
use Rattle.sd_session.specs.declared.status.Status.{Status}
use Rattle.sd_session.specs.declared.status.Status.TheVariants.{Active}

-- a session: its key, the records that it took, in order, and its status
pub record MachineSession : Type 0 where
  pub key : SessionKey
  pub records : List Record
  pub status : Status

-- The machine: the time of its run, its sessions in the order in which they were opened, and the number of
-- the next one. A session's ticket is its number; numbers rise, and there may be gaps between them.
pub record Machine : Type 0 where
  pub time : ℕ
  pub sessions : List MachineSession
  pub next : ℕ

-- a machine with no session yet
abbrev pub empty_machine : ℕ → Machine
empty_machine time = record { time = time; sessions = []; next = 1 }

-- the session of a ticket
abbrev pub session_of : ℕ → List MachineSession → Option MachineSession
session_of ticket [] = None
session_of ticket (s ∷ ss) = if s.key.id == ticket then Some s else session_of ticket ss

-- the sessions, with this one in the place of the one that has its ticket
abbrev pub with_session : MachineSession → List MachineSession → List MachineSession
with_session new [] = []
with_session new (s ∷ ss) = if s.key.id == new.key.id then new ∷ ss else s ∷ with_session new ss

-- the machine with one session changed
abbrev pub changed : Machine → MachineSession → Machine
changed m s = record m { sessions = with_session s m.sessions }

-- the machine with a new session, which has the next number and no record
abbrev pub opened : Machine → Machine
opened m =
    record m { sessions = m.sessions ++ record { key = record { time = m.time; id = m.next }; records = []; status = Active } ∷ []; next = m.next + 1 }

-- the FileIndex of the last record, 0 if there is none
abbrev pub last_index : List Record → ℕ
last_index [] = 0
last_index (r ∷ []) = r.index
last_index (r ∷ s ∷ rs) = last_index (s ∷ rs)

-- a session that an event strikes beside its own: its ticket, and the status that it gets
pub record Strike : Type 0 where
  pub ticket : ℕ
  pub status : Status

-- the status of the session of a ticket after these strikes
abbrev pub status_after : List Strike → ℕ → Status → Status
status_after [] ticket status = status
status_after (x ∷ xs) ticket status = status_after xs ticket (if x.ticket == ticket then x.status else status)

-- the session after these strikes
abbrev pub struck : List Strike → MachineSession → MachineSession
struck strikes s = record s { status = status_after strikes s.key.id s.status }

-- the machine after them
abbrev pub with_strikes : List Strike → Machine → Machine
with_strikes strikes m = record m { sessions = map (struck strikes) m.sessions }
