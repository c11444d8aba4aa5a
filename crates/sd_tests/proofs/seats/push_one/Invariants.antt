use Rattle.std.proofs.Common.{◌≡◌}
use Rattle.sd_tests.proofs.seats.push_one.Given as goal

abbrev pub invariant-loop-turn : goal.invariant-loop-turn
invariant-loop-turn g l = (l.seat.table ≡ l.fn.seat.table) × (l.seat.lane ≡ l.fn.seat.lane)
