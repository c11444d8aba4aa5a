use Rattle.std.proofs.Common.{◌≡◌}
use Rattle.sd_tests.proofs.seats.take_what_is_there.Given as goal

abbrev pub invariant-loop : goal.invariant-loop
invariant-loop g l = l.drive.table ≡ l.fn.drive.table
