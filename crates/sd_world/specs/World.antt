-- A world: its sessions, its drives, each with its lanes and the queue before it, and the operator's desk.
use Rattle.std.specs.Prelude.{◌≡◌, ℕ, ◌+◌, ◌==◌, if◌then◌else◌, Bool, true, false, not, Option, Some, None, is_some, List, [], ◌∷◌, ◌++◌, length, map, filter, slice_get, slice_set}
use Rattle.std.specs.List.{count_by}
use Rattle.std.specs.Option.{option_and_then, option_map, option_map_or}
use Rattle.sd_base.specs.Key.{is_key}
use Rattle.sd_base.specs.declared.number.SessionKey.{SessionKey}
use Rattle.sd_desk.specs.Desk.{DeskView}
use Rattle.sd_drive.specs.View.{DriveIs, items, item_of_piece}
use Rattle.sd_drive.specs.declared.limits.Limits.{Limits}
use Rattle.sd_journal.specs.Journal.{Entry, Item, placed_of}
use Rattle.sd_lane.specs.Queue.{LanesView}
use Rattle.sd_lane.specs.declared.piece.Queued.{Queued}
use Rattle.sd_reserve.specs.declared.drive.DriveView.{DriveView}
use Rattle.sd_session.specs.Session.{SessionView}
use Rattle.sd_session.specs.declared.status.Status.{Status}
use Rattle.sd_session.specs.declared.status.Status.TheVariants.{Active, Ended, Cancelled, Failed}
use Rattle.sd_spool.specs.Job.{StoreState}

-- A lane of a drive: the ticket of the session that used it last; and its spool's store, unless that session has it.
pub record LaneView : Type 0 where
  pub holder : Option ℕ
  pub store : Option StoreState

-- A drive's bay: the media that it takes, the drive, none once it is retired, its lanes, and the queue before it.
pub record BayView (D : Type 0) : Type 0 where
  pub media : List ℕ
  pub drive : Option (DriveIs D)
  pub lanes : List LaneView
  pub queue : LanesView

-- a session, and the number of its drive
pub record WorldSession : Type 0 where
  pub session : SessionView
  pub drive : ℕ

-- A world: its limits and the time of its run; how many pieces each queue has room for; the number of the next
-- session; the sessions in the order in which they were opened; the bays of the drives 1, 2 and on; the desk.
pub record WorldView (D : Type 0) : Type 0 where
  pub limits : Limits
  pub queue : ℕ
  pub next : ℕ
  pub sessions : List WorldSession
  pub bays : List (BayView D)
  pub desk : DeskView

-- Sessions.

-- the session of a ticket
abbrev pub session_at : ℕ → List WorldSession → Option WorldSession
session_at ticket [] = None
session_at ticket (e ∷ es) = if e.session.key.id == ticket then Some e else session_at ticket es

-- the sessions, with this one in the place of the one that has its ticket
abbrev pub with_session : WorldSession → List WorldSession → List WorldSession
with_session new [] = []
with_session new (e ∷ es) = if e.session.key.id == new.session.key.id then new ∷ es else e ∷ with_session new es

-- the ticket's session is this one
abbrev pub HasTicket : {D : Type 0} → WorldView D → ℕ → WorldSession → Type 0
HasTicket w ticket e = session_at ticket w.sessions ≡ Some e

-- Drives.

-- the drive of this number is online, in the bay at this place
pub record IsOnline {D : Type 0} (w : WorldView D) (drive at : ℕ) (bay : BayView D) (d : DriveIs D) : Type 0 where
  pub number : drive ≡ at + 1
  pub there : slice_get w.bays at ≡ Some bay
  pub online : bay.drive ≡ Some d

-- the world with another bay at a place
abbrev pub with_bay : {D : Type 0} → ℕ → BayView D → WorldView D → WorldView D
with_bay at bay w = record w { bays = slice_set w.bays at bay }

-- the world with another drive in the bay at a place
abbrev pub with_drive : {D : Type 0} → ℕ → BayView D → DriveIs D → WorldView D → WorldView D
with_drive at bay d w = with_bay at (record bay { drive = Some d }) w

-- the journal of a drive; empty if it is retired
abbrev pub journal_of : {D : Type 0} → Option (DriveIs D) → List Entry
journal_of None = []
journal_of (Some d) = d.journal

-- what the pieces given to a drive and those before it have of their bodies, in order
abbrev pub items_before : {D : Type 0} → DriveIs D → LanesView → List Item
items_before d queue = items d.journal d.hand ++ map (λ (q : Queued). item_of_piece q.piece) queue.held

-- those of one session
abbrev pub items_with : SessionKey → List Item → List Item
items_with key is = filter (λ (i : Item). is_key key i.key) is

-- Lanes.

-- a session no longer keeps its lane: it is closed or purged; or cancelled or failed, with each piece that it sent placed
abbrev pub leaves_lane : Status → Bool → Bool
leaves_lane Active placed = false
leaves_lane Ended placed = false
leaves_lane Cancelled placed = placed
leaves_lane Failed placed = placed
leaves_lane status placed = true

-- whether this session no longer keeps its lane at the drive with this journal
abbrev pub is_done : List Entry → SessionView → Bool
is_done journal s = leaves_lane s.status (s.sent == placed_of s.key journal)

-- whether a lane is free: no session used it yet, or the one that did last no longer keeps it
abbrev pub lane_is_free : List WorldSession → List Entry → Option ℕ → Bool
lane_is_free sessions journal holder =
    option_map_or (λ ticket. option_map_or (λ (e : WorldSession). is_done journal e.session) (session_at ticket sessions) true) holder true

-- of each lane of a drive whether it is free
abbrev pub free_lanes : List WorldSession → List Entry → List LaneView → List Bool
free_lanes sessions journal lanes = map (λ (l : LaneView). lane_is_free sessions journal l.holder) lanes

-- how many lanes aren't free; none of a drive that is retired
abbrev pub busy_lanes : {D : Type 0} → List WorldSession → Option (DriveIs D) → List LaneView → ℕ
busy_lanes sessions None lanes = 0
busy_lanes sessions (Some d) lanes = count_by not (free_lanes sessions d.journal lanes)

-- the pool of the drive's loaded volume
abbrev pub loaded_pool : {D : Type 0} → DriveIs D → Option (List ℕ)
loaded_pool d = option_and_then (λ at. option_map (λ v. v.pool) (slice_get d.volumes at)) d.loaded

-- what decides whether the drive in this bay takes a session
abbrev pub bay_for : {D : Type 0} → List WorldSession → BayView D → DriveView
bay_for sessions bay = record {
  media = bay.media;
  online = is_some bay.drive;
  loaded = option_and_then (λ d. loaded_pool d) bay.drive;
  pool = option_and_then (λ d. d.pool) bay.drive;
  sessions = busy_lanes sessions bay.drive bay.lanes;
  lanes = length bay.lanes;
}

-- what decides of each drive whether it takes a session, by the drives' numbers
abbrev pub drives_for : {D : Type 0} → WorldView D → List DriveView
drives_for w = map (bay_for w.sessions) w.bays
