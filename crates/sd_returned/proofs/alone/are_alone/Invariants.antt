use Rattle.std.proofs.Common.{◌≡◌, ◌<◌, ℕ, Some, slice_get}
use Rattle.sd_drive.specs.Receipt.{ReceiptIs}
use Rattle.sd_jobs.specs.Jobs.{JobEndIs}
use Rattle.sd_returned.specs.Listed.{IsAlone, lane_ends}
use Rattle.sd_returned.proofs.alone.are_alone.Given as goal

-- so it is of the first
abbrev pub invariant-loop-at : goal.invariant-loop-at
invariant-loop-at g l = (place : ℕ) (end : JobEndIs) (r : ReceiptIs) → place < l.at → slice_get l.ends place ≡ Some end → end.receipt ≡ Some r
    → IsAlone (lane_ends l.ends) place r.key.id
