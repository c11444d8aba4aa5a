-- The lanes of a drive at the desk: where the end of each lies while no session uses it.
use Rattle.std.specs.Prelude.{◌≡◌, ℕ, ◌+◌, ◌-◌, ◌≤◌, ◌==◌, Bool, true, false, not, ◌&&◌, if◌then◌else◌, IsTrue, is_some, Option, Some, None, List, [], ◌++◌, ◌∷◌, length, map, slice_get, slice_set}
use Rattle.std.specs.List.{count_by}
use Rattle.std.specs.Option.{option_and_then, option_to_list}
use Rattle.sd_base.specs.Choice.{FirstOf}
use Rattle.sd_base.specs.Limits.{most_lanes}
use Rattle.sd_line.specs.Ends.{EndIs, LastIsOver}
use Rattle.sd_board.specs.Changes.{change_at}
use Rattle.sd_board.specs.declared.sent.Sent.{Sent}

-- A lane: its end, unless a session uses it or an open holds it; what its last session sent, while pieces of that may still be on
-- their way to a volume; and whether an open holds it, which has taken the end and has no number yet.
pub record SlotIs : Type 0 where
  pub end : Option EndIs
  pub on_its_way : Option Sent
  pub held : Bool

-- The lanes 1, 2 and on of the drive of this number, which takes this media.
pub record DriveLanesIs : Type 0 where
  pub no : ℕ
  pub media : List ℕ
  pub slots : List SlotIs

-- the slot in which this end lies
abbrev pub slot_with : EndIs → Option Sent → SlotIs
slot_with e way = record { end = Some e; on_its_way = way; held = false }

-- that of a lane that no session used
abbrev pub new_slot : EndIs → SlotIs
new_slot e = slot_with e None

-- whether the lane is free: its end lies here, and nothing of its last session is on its way
abbrev pub is_free : SlotIs → Bool
is_free s = is_some s.end && not (is_some s.on_its_way)

-- the lane is free
abbrev pub IsFree : SlotIs → Type 0
IsFree s = IsTrue (is_free s)

-- whether the lane has a session, or something of its last one is on its way: it isn't free, and no open holds it
abbrev pub is_busy : SlotIs → Bool
is_busy s = not (is_free s) && not s.held

-- how many lanes of the drive are busy
abbrev pub busy_lanes : DriveLanesIs → ℕ
busy_lanes d = count_by is_busy d.slots

-- the end is of this lane of this drive, and its last session goes on no more
pub record IsAtHome (own lane : ℕ) (e : EndIs) : Type 0 where
  pub drive_is : e.seat.no ≡ own
  pub lane_is : e.seat.seat.lane ≡ lane
  pub over : LastIsOver e.sessions

-- What the lanes of a drive keep: the end that lies in the slot of a lane is that lane's, and a session may be opened at it.
pub record KeepsLanes (d : DriveLanesIs) : Type 0 where
  pub most : length d.slots ≤ most_lanes
  pub ends : (at : ℕ) (slot : SlotIs) (e : EndIs) → slice_get d.slots at ≡ Some slot → slot.end ≡ Some e → IsAtHome d.no (at + 1) e

-- this end is of the lane at this place of this drive, and no session used it yet
abbrev pub IsNewAt : ℕ → ℕ → EndIs → Type 0
IsNewAt own at e = (e.seat.no ≡ own) × (e.seat.seat.lane ≡ at + 1) × (e.sessions ≡ [])

-- these are the ends of the lanes 1, 2 and on of this drive, and no session used them yet
abbrev pub AreNew : ℕ → List EndIs → Type 0
AreNew own ends = (at : ℕ) (e : EndIs) → slice_get ends at ≡ Some e → IsNewAt own at e

-- the lanes of a drive, each with its end in its slot
abbrev pub new_lanes : ℕ → List ℕ → List EndIs → DriveLanesIs
new_lanes own media ends = record { no = own; media = media; slots = map new_slot ends }

-- the end of the lowest lane that is free is taken from its slot, and the lane is held; nothing else changes
pub record TakesLowest (d : DriveLanesIs) (e : EndIs) (d' : DriveLanesIs) : Type 0 where
  pub at : ℕ
  pub lowest : FirstOf IsFree (λ _ _. ⊥) d.slots at
  pub end_is : lowest.first.end ≡ Some e
  pub home : IsAtHome d.no (at + 1) e
  pub is : d' ≡ record d { slots = slice_set d.slots at (record lowest.first { end = None; held = true }) }

-- the slot of this end is there and empty, and its last session goes on no more
pub record MayLie (d : DriveLanesIs) (e : EndIs) : Type 0 where
  pub slot : SlotIs
  pub there : slice_get d.slots (e.seat.seat.lane - 1) ≡ Some slot
  pub empty : slot.end ≡ None
  pub over : LastIsOver e.sessions

-- the lanes once this end lies in its slot
abbrev pub lies_in : EndIs → Option Sent → DriveLanesIs → DriveLanesIs
lies_in e way d = record d { slots = slice_set d.slots (e.seat.seat.lane - 1) (slot_with e way) }

-- it is the same that was sent: by the same session, and as much
abbrev pub same_sent : Sent → Sent → Bool
same_sent a b = ((a.key.time == b.key.time) && (a.key.id == b.key.id)) && (a.sent == b.sent)

-- whether this is what is on its way
abbrev pub is_what : Sent → Option Sent → Bool
is_what sent None = false
is_what sent (Some way) = same_sent way sent

-- the slot once this has arrived: if it is what was on its way, nothing is any more; else nothing changes
abbrev pub arrived : Sent → SlotIs → SlotIs
arrived sent s = if is_what sent s.on_its_way then record s { on_its_way = None } else s

-- so for this lane of a drive
abbrev pub arrived_in : Sent → ℕ → DriveLanesIs → DriveLanesIs
arrived_in sent lane d = record d { slots = change_at (arrived sent) (lane - 1) d.slots }

-- so for this lane of this drive
abbrev pub arrived_at : Sent → ℕ → ℕ → List DriveLanesIs → List DriveLanesIs
arrived_at sent drive lane ds = change_at (arrived_in sent lane) (drive - 1) ds

-- the slot of a lane by which a session has its number: nobody holds it any more
abbrev pub numbered : SlotIs → SlotIs
numbered s = record s { held = false }

-- so for this lane of a drive
abbrev pub numbered_in : ℕ → DriveLanesIs → DriveLanesIs
numbered_in lane d = record d { slots = change_at numbered (lane - 1) d.slots }

-- so for this lane of this drive
abbrev pub numbered_at : ℕ → ℕ → List DriveLanesIs → List DriveLanesIs
numbered_at drive lane ds = change_at (numbered_in lane) (drive - 1) ds

-- the slot of this lane of this drive, if there is such a lane
abbrev pub slot_at : ℕ → ℕ → List DriveLanesIs → Option SlotIs
slot_at drive lane ds = option_and_then (λ (d : DriveLanesIs). slice_get d.slots (lane - 1)) (slice_get ds (drive - 1))

-- whether this lane is free, if there is one
abbrev pub is_free_of : Option SlotIs → Bool
is_free_of None = false
is_free_of (Some s) = is_free s

-- what is on its way by this lane, if there is one
abbrev pub on_its_way_of : Option SlotIs → Option Sent
on_its_way_of None = None
on_its_way_of (Some s) = s.on_its_way

-- the ends that lie in these slots, in order
abbrev pub ends_in : List SlotIs → List EndIs
ends_in [] = []
ends_in (s ∷ ss) = option_to_list s.end ++ ends_in ss

-- those of this drive's lanes, if there is one
abbrev pub ends_of : Option DriveLanesIs → List EndIs
ends_of None = []
ends_of (Some d) = ends_in d.slots

-- the drive once its lanes have left the board
abbrev pub without_lanes : DriveLanesIs → DriveLanesIs
without_lanes d = record d { slots = [] }

-- how many lanes of this drive are busy, if there is one
abbrev pub busy_of : Option DriveLanesIs → ℕ
busy_of None = 0
busy_of (Some d) = busy_lanes d
