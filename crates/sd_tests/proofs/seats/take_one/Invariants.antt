use Rattle.std.proofs.Common.{◌≡◌}
use Rattle.sd_tests.proofs.seats.take_one.Given as goal

abbrev pub invariant-loop-turn : goal.invariant-loop-turn
invariant-loop-turn g l = (l.seat.table ≡ l.fn.seat.table) × (l.seat.lanes ≡ l.fn.seat.lanes)
