use Rattle.std.proofs.Common.{length}
use Rattle.sd_daemon.proofs.adopting.+adopt_own.Given as goal

abbrev pub decreases-adopt_own : goal.decreases-adopt_own
decreases-adopt_own g l = length l.planned.now
