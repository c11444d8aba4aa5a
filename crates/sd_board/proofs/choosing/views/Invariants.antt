use Rattle.std.proofs.Common.{◌≡◌, ◌<◌, ℕ, Some, length, slice_get}
use Rattle.sd_base.specs.Limits.{most_drives}
use Rattle.sd_board.specs.Opening.{view_of}
use Rattle.sd_board.specs.Slots.{DriveLanesIs}
use Rattle.sd_board.proofs.choosing.views.Given as goal

-- each drive so far, of as many as there may be
abbrev pub invariant-loop-place : goal.invariant-loop-place
invariant-loop-place g l = record {
  long : length l.views ≡ most_drives;
  made : (k : ℕ) (d : DriveLanesIs) → k < l.place → slice_get l.drives k ≡ Some d → slice_get l.views k ≡ Some (view_of d (slice_get l.seen k));
}
