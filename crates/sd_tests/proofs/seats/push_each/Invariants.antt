use Rattle.std.proofs.Common.{◌≡◌}
use Rattle.sd_tests.proofs.seats.push_each.Given as goal

abbrev pub invariant-loop-number : goal.invariant-loop-number
invariant-loop-number g l = (l.seat.table ≡ l.fn.seat.table) × (l.seat.lane ≡ l.fn.seat.lane)
