use Rattle.std.proofs.Common.{◌≡◌, Some}
use Rattle.sd_bench.proofs.volumes.add_again.Given as goal

abbrev pub invariant-loop : goal.invariant-loop
invariant-loop g l = (g.D.Driver.meaning l.drive).loaded ≡ Some l.volume.name
