use Rattle.std.proofs.Common.{◌+◌, ◌-◌, ◌<◌, ◌≤◌, ℕ, drop, length}
use Rattle.sd_base.specs.Limits.{most_block}
use Rattle.sd_block.specs.Head.{IsHeadOf}
use Rattle.sd_block.specs.declared.head.Head.{Head}
use Rattle.sd_scan.proofs.search.headless.Given as goal

abbrev pub invariant-loop-at : goal.invariant-loop-at
invariant-loop-at l = record {
  within : l.at ≤ length l.bytes;
  none : (at : ℕ) → at < l.at → (at + 24 ≤ length l.bytes) × ((head : Head) → ¬ IsHeadOf most_block (drop at l.bytes) head);
}

abbrev pub decreases-loop-at : goal.decreases-loop-at
decreases-loop-at l = length l.bytes - l.at
