use Rattle.std.proofs.Common.{◌≡◌}
use Rattle.sd_tests.proofs.seats.take_all.Given as goal

abbrev pub invariant-loop : goal.invariant-loop
invariant-loop g l = (l.seat.table ≡ l.fn.seat.table) × (l.seat.lanes ≡ l.fn.seat.lanes)
