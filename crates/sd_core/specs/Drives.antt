-- The lanes of a world's drives.
use Rattle.std.specs.Prelude.{◌≡◌, ℕ, ◌≤◌, Some, List, length, slice_get}
use Rattle.sd_base.specs.Limits.{most_lanes}
use Rattle.sd_world.specs.World.{BayView}

-- none of the drives has more lanes than a drive may have
abbrev pub HaveFewLanes : {D : Type 0} → List (BayView D) → Type 0
HaveFewLanes {D} bays = (at : ℕ) (bay : BayView D) → slice_get bays at ≡ Some bay → length bay.lanes ≤ most_lanes
