-- The world that a settled line becomes.
use Rattle.std.specs.Prelude.{◌≡◌, ◌⊎◌, ℕ, ◌+◌, true, false, List, [], ◌∷◌, ◌++◌, map, Option, None, Some, slice_get, IsPermutation, if◌then◌else◌}
use Rattle.std.specs.List.Sorted.{IsNonDecreasingBy}
use Rattle.atomic_table.specs.Seated.{TableId}
use Rattle.sd_desk.specs.Desk.{claimed_by, is_purged_at}
use Rattle.sd_driver.specs.Meaning.{Meaning}
use Rattle.sd_drive.specs.Receipt.{ReceiptIs}
use Rattle.sd_journal.specs.Journal.{Entry, fails}
use Rattle.sd_lane.specs.Queue.{LanesView}
use Rattle.sd_line.specs.Side.{LineIs}
use Rattle.sd_machine.specs.Machine.{Machine, MachineSession}
use Rattle.sd_line.specs.Ends.{EndIs, ToldSession}
use Rattle.sd_ruled.specs.Seats.{RuledView}
use Rattle.sd_session.specs.Session.{FailsSession}
use Rattle.sd_session.specs.declared.status.Status.{Status}
use Rattle.sd_session.specs.declared.status.Status.TheVariants.{Active, Ended, Failed}
use Rattle.sd_hub.specs.Settles.{CheckedIs, SettledIs, SettledLaneIs, Settles}
use Rattle.sd_volume.specs.Volume.{VolumeView}
use Rattle.sd_world.specs.World.{WorldView, WorldSession, BayView, LaneView}

-- all sessions that used these lanes, lane after lane
abbrev pub lane_sessions : List SettledLaneIs → List ToldSession
lane_sessions [] = []
lane_sessions (l ∷ ls) = l.sessions ++ lane_sessions ls

-- The session in the world, at the drive 1. It fails if it goes on while the drive lost a block of it; else it is as it was.
abbrev pub SettlesOne : List Entry → ToldSession → WorldSession → Type 0
SettlesOne journal s e = (e.drive ≡ 1)
    × (((fails s.session.key journal ≡ true) × FailsSession s.session e.session)
    ⊎ ((fails s.session.key journal ≡ false) × (e.session ≡ s.session)))

-- each of them in the world, in their order
abbrev pub SettlesEach : List Entry → List ToldSession → List WorldSession → Type 0
SettlesEach journal [] [] = Unit {0}
SettlesEach journal [] (e ∷ es) = ⊥
SettlesEach journal (s ∷ ss) [] = ⊥
SettlesEach journal (s ∷ ss) (e ∷ es) = SettlesOne journal s e × SettlesEach journal ss es

-- the ticket of the last of these sessions
abbrev pub last_ticket : List ToldSession → Option ℕ
last_ticket [] = None
last_ticket (s ∷ []) = Some s.session.key.id
last_ticket (s ∷ t ∷ ss) = last_ticket (t ∷ ss)

-- the number after the greatest, if the numbers of these sessions don't fall; 1 if there is none
abbrev pub next_number : List ToldSession → ℕ
next_number [] = 1
next_number (s ∷ []) = s.session.key.id + 1
next_number (s ∷ t ∷ ss) = next_number (t ∷ ss)

-- a lane in the world
abbrev pub lane_view : SettledLaneIs → LaneView
lane_view l = record { holder = last_ticket l.sessions; store = l.store }

-- the queue of one owner in the world
abbrev pub queue_view : RuledView → LanesView
queue_view q = record { lanes = q.lanes; capacity = q.capacity; held = q.held }

-- the one bay of the world
abbrev pub bay_of : {D : Type 0} → SettledIs D → BayView D
bay_of s = record {
  media = s.drive.media;
  drive = Some s.drive;
  lanes = map lane_view s.lanes;
  queue = queue_view s.queue;
}

-- The world of a settled line: its one drive is the first, with the queue and the lanes; its sessions are those that used the
-- lanes, by rising number; the names of the drive's volumes are claimed for it, and none was purged; nothing was asked for.
pub record BecomesWorld {D : Type 0} (settled : SettledIs D) (told : List ToldSession) (w : WorldView D) : Type 0 where
  pub limits_are : w.limits ≡ settled.drive.limits
  pub queue_is : w.queue ≡ settled.queue.capacity
  pub all : IsPermutation (lane_sessions settled.lanes) told
  pub rise : IsNonDecreasingBy (λ (s : ToldSession). s.session.key.id) told
  pub sessions : SettlesEach settled.drive.journal told w.sessions
  pub next_is : w.next ≡ next_number told
  pub bays_are : w.bays ≡ bay_of settled ∷ []
  pub claims : (place : ℕ) (v : VolumeView) → slice_get settled.drive.volumes place ≡ Some v → claimed_by w.desk v.name ≡ Some 1
  pub unpurged : (name : List ℕ) → is_purged_at w.desk name ≡ false
  pub none_asked : w.desk.requests ≡ []

-- its list machine

-- the status after a fault: who goes on, with an end label or without, has failed
abbrev pub failed_status : Status → Status
failed_status Active = Failed
failed_status Ended = Failed
failed_status status = status

-- the session in the machine: the records that it took, and its status, or failed if the drive lost a block of it while
-- it went on
abbrev pub machine_session : List Entry → ToldSession → MachineSession
machine_session journal s = record {
  key = s.session.key;
  records = s.told;
  status = if fails s.session.key journal then failed_status s.session.status else s.session.status;
}

-- the machine of these sessions
abbrev pub machine_of : {D : Type 0} → SettledIs D → List ToldSession → Machine
machine_of settled told = record {
  time = settled.drive.limits.time;
  sessions = map (machine_session settled.drive.journal) told;
  next = next_number told;
}

-- The world is that of a line that was settled, with these ends of its lanes and these receipts: its lock had some value, in which no
-- fault was found; of that and of what was handed in the world was made.
pub record IsSettledFrom {D : Type 0} (meaning : D → Meaning) (table : ℕ → TableId) (time : ℕ → ℕ) (line : LineIs) (ends : List EndIs) (receipts : List ReceiptIs)
    (w : WorldView D) : Type 0 where
  pub checked : CheckedIs D
  pub settled : SettledIs D
  pub told : List ToldSession
  pub line_is : checked.line ≡ line
  pub ends_are : checked.ends ≡ ends
  pub receipts_are : checked.receipts ≡ receipts
  pub settles : Settles meaning table time checked settled
  pub becomes : BecomesWorld settled told w
