use Rattle.std.proofs.Common.{IsSome}
use Rattle.sd_bench.proofs.volumes.write_blocks.Given as goal

abbrev pub invariant-loop : goal.invariant-loop
invariant-loop g l = IsSome (g.D.Driver.meaning l.drive).loaded
