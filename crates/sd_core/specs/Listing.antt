-- Listing the sessions that are on their way, by the lanes that they keep.
use Rattle.std.specs.Prelude.{◌≡◌, ◌⊎◌, ℕ, ◌+◌, ◌<◌, ◌≤◌, true, Option, Some, List, [], ◌∷◌, length, slice_get, slice_index_or}
use Rattle.sd_world.specs.Drives.{is_running}
use Rattle.sd_world.specs.World.{WorldSession, BayView, LaneView, session_at}

-- the session of the ticket goes on
abbrev pub GoesOn : List WorldSession → ℕ → Type 0
GoesOn sessions ticket = (e : WorldSession) × (session_at ticket sessions ≡ Some e) × (is_running e.session.status ≡ true)

-- each that goes on keeps a lane of one of these bays
abbrev pub KeepLanes : {D : Type 0} → List WorldSession → List (BayView D) → Type 0
KeepLanes {D} sessions bays = (ticket : ℕ) → GoesOn sessions ticket
    → (at : ℕ) × (bay : BayView D) × (place : ℕ) × (lane : LaneView)
    × (slice_get bays at ≡ Some bay) × (slice_get bay.lanes place ≡ Some lane) × (lane.holder ≡ Some ticket)

-- the tickets rise, from the least on
abbrev pub TicketsRise : ℕ → List ℕ → Type 0
TicketsRise least [] = Unit {0}
TicketsRise least (t ∷ ts) = (least ≤ t) × TicketsRise (t + 1) ts

-- the ticket is one of these
abbrev pub IsListed : ℕ → List ℕ → Type 0
IsListed ticket [] = ⊥
IsListed ticket (t ∷ ts) = (t ≡ ticket) ⊎ IsListed ticket ts

-- those below the ticket end at this place, and greater ones come after it
pub record EndsBelow (tickets : List ℕ) (ticket at : ℕ) : Type 0 where
  pub within : at ≤ length tickets
  pub before : (k d : ℕ) → k < at → slice_index_or tickets k d < ticket
  pub behind : (k d : ℕ) → at ≤ k → k < length tickets → ticket < slice_index_or tickets k d

-- the tickets rise, and are of sessions that go on
pub record AreRunning (sessions : List WorldSession) (tickets : List ℕ) : Type 0 where
  pub rise : TicketsRise 0 tickets
  pub go_on : (ticket : ℕ) → IsListed ticket tickets → GoesOn sessions ticket

-- those that were listed are
abbrev pub StayListed : List ℕ → List ℕ → Type 0
StayListed old new = (ticket : ℕ) → IsListed ticket old → IsListed ticket new

-- the session that used a lane last is listed, if it goes on
abbrev pub ListsHolder : List WorldSession → Option ℕ → List ℕ → Type 0
ListsHolder sessions holder tickets = (ticket : ℕ) → holder ≡ Some ticket → GoesOn sessions ticket → IsListed ticket tickets

-- so of each of these lanes
abbrev pub ListsLanes : List WorldSession → List LaneView → List ℕ → Type 0
ListsLanes sessions lanes tickets = (place : ℕ) (lane : LaneView) → slice_get lanes place ≡ Some lane → ListsHolder sessions lane.holder tickets
