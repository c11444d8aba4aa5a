use Rattle.std.proofs.Common.{◌≡◌, ◌<◌, ℕ, Some, length, slice_get}
use Rattle.sd_base.specs.Limits.{most_drives}
use Rattle.sd_world.specs.World.{BayView, bay_for}
use Rattle.sd_events.proofs.choosing.drives_of.Given as goal

-- each drive so far, of as many as there may be
abbrev pub invariant-loop-place : goal.invariant-loop-place
invariant-loop-place g l = record {
  long : length l.drives ≡ most_drives;
  made : (k : ℕ) (bay : BayView _) → k < l.place → slice_get l.bays k ≡ Some bay → slice_get l.drives k ≡ Some (bay_for l.sessions bay);
}
