use Rattle.sd_gates.specs.Names.{AreNamed}
use Rattle.sd_gates.proofs.jobs.begin_all.Given as goal

-- the drives that are left are named
abbrev pub invariant-loop-line : goal.invariant-loop-line
invariant-loop-line g l = AreNamed g.N.Naming.table g.N.Naming.time l.all.items
