-- What an event of a drive does in the world around it: if no such drive is online; and who fails by a failed sync.
use Rattle.std.specs.Prelude.{◌≡◌, ◌≢◌, ◌⊎◌, ℕ, ◌+◌, Bool, true, false, not, ◌==◌, ◌&&◌, if◌then◌else◌, Option, Some, None, List, [], map, slice_get, slice_set}
use Rattle.std.specs.List.{list_any, AllZip}
use Rattle.std.specs.Option.{option_or}
use Rattle.sd_base.specs.declared.refusal.Refusal.{Refusal}
use Rattle.sd_base.specs.declared.refusal.Refusal.TheVariants.{NoSuchDrive, DriveOffline, InUse, VolumeNotOnShelf, DeviceFault, Memory}
use Rattle.sd_desk.specs.Desk.{DeskView}
use Rattle.sd_driver.specs.Meaning.{Meaning, IsHonest}
use Rattle.sd_driver.specs.Shelf.{SameShelf, StillLastsBelow}
use Rattle.sd_drive.specs.Moves.{AddsNone, EmptiesVolume, index_of, purge_due}
use Rattle.sd_drive.specs.Shelf.{KeepsPieces}
use Rattle.sd_drive.specs.View.{DriveIs}
use Rattle.sd_journal.specs.Journal.{Entry, purged, fails_with, has_on}
use Rattle.sd_lane.specs.declared.piece.Queued.{Queued}
use Rattle.sd_machine.specs.declared.event.Event.{Event}
use Rattle.sd_machine.specs.declared.event.Event.TheVariants.{Take, Place, Sync, Label, Adopt, Mount, Unmount, Seek}
use Rattle.sd_machine.specs.declared.reply.Reply.{Reply}
use Rattle.sd_machine.specs.declared.reply.Reply.TheVariants.{Refused}
use Rattle.sd_session.specs.Session.{SessionView, FailsSession}
use Rattle.sd_session.specs.declared.status.Status.{Status}
use Rattle.sd_session.specs.declared.status.Status.TheVariants.{Active, Ended, Purged}
use Rattle.sd_volume.specs.Adopt.{CutsAt}
use Rattle.sd_volume.specs.Device.{Counted}
use Rattle.sd_volume.specs.Volume.{VolumeView}
use Rattle.sd_volume.specs.declared.volume.VolumeStatus.{VolumeStatus}
use Rattle.sd_volume.specs.declared.volume.VolumeStatus.TheVariants.{Error}
use Rattle.sd_world.specs.Operators.{NotesPurge}
use Rattle.sd_world.specs.World.{WorldView, WorldSession, LaneView, BayView, IsOnline, with_bay, with_drive, is_done, busy_lanes}
use Rattle.sd_world.specs.Stations.{Outcome, Calls}
use Rattle.sd_world.specs.DriveMoves.{DriveMoves}

-- there is no drive of this number, or it is offline for good
abbrev pub DriveMissing : {D : Type 0} → WorldView D → ℕ → Refusal → Type 0
DriveMissing {D} w drive why = (at : ℕ) × (drive ≡ at + 1)
    × (((slice_get w.bays at ≡ None) × (why ≡ NoSuchDrive))
    ⊎ ((bay : BayView D) × (slice_get w.bays at ≡ Some bay) × (bay.drive ≡ None) × (why ≡ DriveOffline)))

-- A sync that fails.

-- the session goes on, with its end label or without
abbrev pub is_running : Status → Bool
is_running Active = true
is_running Ended = true
is_running status = false

-- the session goes on at the drive, and a block of it awaits a sync of the volume
abbrev pub loses_by : ℕ → List ℕ → List Entry → WorldSession → Bool
loses_by drive volume journal e =
    (e.drive == drive) && (is_running e.session.status && fails_with e.session.key volume journal)

-- if this is so, the session fails; else it is as it was
abbrev pub FailsWhere : Bool → WorldSession → WorldSession → Type 0
FailsWhere true e e' = (s : SessionView) × FailsSession e.session s × (e' ≡ record e { session = s })
FailsWhere false e e' = e' ≡ e

-- of the sessions exactly those fail that lose a block by it
abbrev pub FailExactly : (WorldSession → Bool) → List WorldSession → List WorldSession → Type 0
FailExactly loses old new = AllZip (λ e e'. FailsWhere (loses e) e e') old new

-- If a volume's blocks are lost, just those sessions fail that go on at the drive with an unsynced block on it.
abbrev pub FailBy : ℕ → List Entry → Option (List ℕ) → List WorldSession → List WorldSession → Type 0
FailBy drive journal None old new = new ≡ old
FailBy drive journal (Some volume) old new = FailExactly (loses_by drive volume journal) old new

-- The event of a drive.

-- the event happens at this drive
abbrev pub IsOfDrive : Event → ℕ → Type 0
IsOfDrive (Take drive) own = drive ≡ own
IsOfDrive (Place drive) own = drive ≡ own
IsOfDrive (Sync drive) own = drive ≡ own
IsOfDrive (Label drive name pool media moment) own = drive ≡ own
IsOfDrive (Adopt drive name) own = drive ≡ own
IsOfDrive (Mount drive name) own = drive ≡ own
IsOfDrive (Unmount drive) own = drive ≡ own
IsOfDrive (Seek drive) own = drive ≡ own
IsOfDrive event own = ⊥

-- the event happens at the drive, which is online; sessions fail by what it lost there, and nothing else changes
pub record AtDrive {D : Type 0} (meaning : D → Meaning) (old : WorldView D) (drive : ℕ) (event : Event) (reply : Reply) (new : WorldView D) : Type 0 where
  pub at : ℕ
  pub bay : BayView D
  pub d : DriveIs D
  pub online : IsOnline old drive at bay d
  pub outcome : Outcome D
  pub moves : DriveMoves meaning drive event reply (record { drive = d; queue = bay.queue; desk = old.desk }) outcome
  pub sessions : List WorldSession
  pub fail : FailBy drive d.journal outcome.lost old.sessions sessions
  pub new_is : new ≡ record old {
    sessions = sessions;
    bays = slice_set old.bays at (record bay { drive = Some outcome.drive; queue = outcome.queue });
    desk = outcome.desk;
  }

-- it is refused if no such drive is online, and nothing changes; else it happens at the drive
abbrev pub MovesDrive : {D : Type 0} → (D → Meaning) → WorldView D → ℕ → Event → Reply → WorldView D → Type 0
MovesDrive meaning old drive event reply new =
    ((why : Refusal) × (reply ≡ Refused why) × DriveMissing old drive why × (new ≡ old)) ⊎ AtDrive meaning old drive event reply new

-- Retiring.

-- a lane of the drive isn't free, a volume is loaded, or a piece is in its hand or in the queue
abbrev pub IsInUse : {D : Type 0} → List WorldSession → DriveIs D → List LaneView → List Queued → Type 0
IsInUse sessions d lanes held = (busy_lanes sessions (Some d) lanes ≢ 0) ⊎ (d.loaded ≢ None) ⊎ (d.hand ≢ None) ⊎ (held ≢ [])

-- the drive goes offline for good
pub record RetiresDrive {D : Type 0} (old : WorldView D) (drive : ℕ) (new : WorldView D) : Type 0 where
  pub at : ℕ
  pub bay : BayView D
  pub d : DriveIs D
  pub online : IsOnline old drive at bay d
  pub unused : IsInUse old.sessions d bay.lanes bay.queue.held → ⊥
  pub new_is : new ≡ with_bay at (record bay { drive = None }) old

-- why a drive doesn't: it isn't online, or it is in use; nothing changes
abbrev pub RetireRefused : {D : Type 0} → WorldView D → ℕ → Refusal → WorldView D → Type 0
RetireRefused {D} old drive why new = (new ≡ old) × (DriveMissing old drive why
    ⊎ ((why ≡ InUse) × (at : ℕ) × (bay : BayView D) × (d : DriveIs D) × IsOnline old drive at bay d
    × IsInUse old.sessions d bay.lanes bay.queue.held))

-- Purging.

-- the session was purged
abbrev pub was_purged : Status → Bool
was_purged Purged = true
was_purged status = false

-- the session is of the drive, and a block of it was placed on the volume
abbrev pub is_on : ℕ → List ℕ → List Entry → WorldSession → Bool
is_on drive name journal e = (e.drive == drive) && has_on e.session.key name journal

-- such a session still keeps its lane from being free
abbrev pub keeps_volume : ℕ → List ℕ → List Entry → WorldSession → Bool
keeps_volume drive name journal e = is_on drive name journal e && not (is_done journal e.session)

-- one of these sessions does
abbrev pub is_kept : ℕ → List ℕ → List Entry → List WorldSession → Bool
is_kept drive name journal sessions = list_any (keeps_volume drive name journal) sessions

-- Which refusal of a purge is due before the device is asked: the drive's own; or a session of the drive that keeps its lane from being
-- free has a block on the volume.
abbrev pub purge_due_in : {D : Type 0} → List WorldSession → ℕ → DriveIs D → List ℕ → Option Refusal
purge_due_in sessions drive d name = option_or (purge_due d name) (if is_kept drive name d.journal sessions then Some InUse else None)

-- such a session is purged; any other is as it was
abbrev pub purged_if_on : ℕ → List ℕ → List Entry → WorldSession → WorldSession
purged_if_on drive name journal e =
    if is_on drive name journal e then record e { session = record e.session { status = Purged } } else e

-- the sessions once the volume of the drive was purged
abbrev pub purged_sessions : ℕ → List ℕ → List Entry → List WorldSession → List WorldSession
purged_sessions drive name journal sessions = map (purged_if_on drive name journal) sessions

-- The drive's volume of this name is emptied, and has this status then, which is Error if the device failed; else an honest device
-- cut it to its label block. What every call leaves of the device it leaves too, but what was on the volume after its
-- label block.
pub record PurgesNamed {D : Type 0} (meaning : D → Meaning) (fault : Type 0) (status : VolumeStatus) (name : List ℕ) (d after : DriveIs D) : Type 0 where
  pub place : ℕ
  pub volume : VolumeView
  pub place_is : index_of d.volumes name ≡ Some place
  pub there : slice_get d.volumes place ≡ Some volume
  pub name_is : volume.name ≡ name
  pub empties : EmptiesVolume place volume status d after
  pub counted : Counted fault ⊥ (meaning d.device) (meaning after.device)
  pub keeps : KeepsPieces (meaning d.device) (meaning after.device) (purged name d.journal) (purged name d.journal) d.hand d.hand
  pub below : StillLastsBelow volume.first name (meaning d.device).shelf (meaning after.device).shelf
  pub cuts : (fault → ⊥) → IsHonest (meaning d.device)
      → CutsAt volume.first name (meaning d.device).shelf (meaning after.device).shelf

-- The device of the drive hasn't the volume, which an honest one has, or it is out of memory: the drive stays as it
-- was.
pub record PurgesNone {D : Type 0} (meaning : D → Meaning) (why : Refusal) (d after : DriveIs D) : Type 0 where
  pub why_is : (why ≡ VolumeNotOnShelf) ⊎ (why ≡ Memory)
  pub on_shelf : IsHonest (meaning d.device) → why ≢ VolumeNotOnShelf
  pub adds_none : AddsNone d after
  pub calls : Calls meaning ⊥ ⊥ d after
  pub same : IsHonest (meaning d.device) → SameShelf (meaning d.device).shelf (meaning after.device).shelf

-- a volume of the drive is emptied, and exactly the sessions of the drive are purged that have a block on it
pub record PurgesVolume {D : Type 0} (meaning : D → Meaning) (fault : Type 0) (status : VolumeStatus)
    (old : WorldView D) (drive : ℕ) (name : List ℕ) (new : WorldView D) : Type 0 where
  pub at : ℕ
  pub bay : BayView D
  pub d : DriveIs D
  pub online : IsOnline old drive at bay d
  pub due : purge_due_in old.sessions drive d name ≡ None
  pub after : DriveIs D
  pub purges : PurgesNamed meaning fault status name d after
  pub desk : DeskView
  pub notes : NotesPurge name old.desk desk
  pub new_is : new ≡ record old {
    sessions = purged_sessions drive name d.journal old.sessions;
    bays = slice_set old.bays at (record bay { drive = Some after });
    desk = desk;
  }

-- a volume of the drive isn't emptied, and nothing changes
pub record LeavesVolume {D : Type 0} (meaning : D → Meaning) (old : WorldView D) (drive : ℕ) (name : List ℕ) (why : Refusal) (new : WorldView D) : Type 0 where
  pub at : ℕ
  pub bay : BayView D
  pub d : DriveIs D
  pub online : IsOnline old drive at bay d
  pub due : purge_due_in old.sessions drive d name ≡ None
  pub after : DriveIs D
  pub none : PurgesNone meaning why d after
  pub new_is : new ≡ with_drive at bay after old

-- Why a volume isn't purged: the drive isn't online; a refusal is due before the device is asked; the volume isn't
-- found, or it is out of memory. Or the device failed, and the volume is emptied all the same.
abbrev pub PurgeRefused : {D : Type 0} → (D → Meaning) → WorldView D → ℕ → List ℕ → Refusal → WorldView D → Type 0
PurgeRefused {D} meaning old drive name why new =
    (DriveMissing old drive why × (new ≡ old))
    ⊎ ((at : ℕ) × (bay : BayView D) × (d : DriveIs D) × IsOnline old drive at bay d
    × (purge_due_in old.sessions drive d name ≡ Some why) × (new ≡ old))
    ⊎ LeavesVolume meaning old drive name why new
    ⊎ ((why ≡ DeviceFault) × PurgesVolume meaning (Unit {0}) Error old drive name new)
