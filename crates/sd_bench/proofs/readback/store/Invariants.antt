use Rattle.std.proofs.Common.{◌≡◌, Some}
use Rattle.sd_bench.proofs.readback.store.Given as goal

abbrev pub invariant-loop-body : goal.invariant-loop-body
invariant-loop-body g l = (g.D.Driver.meaning l.drive).loaded ≡ Some l.volume.name
