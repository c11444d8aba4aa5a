use Rattle.std.proofs.Common.{◌≡◌}
use Rattle.sd_tests.proofs.owner.fill.Given as goal

abbrev pub invariant-loop-count : goal.invariant-loop-count
invariant-loop-count g l = l.queue.lanes ≡ l.fn.queue.lanes
