use Rattle.std.proofs.Common.{length}
use Rattle.sd_daemon.proofs.drives.+unused_of.Given as goal

abbrev pub decreases-unused_of : goal.decreases-unused_of
decreases-unused_of g l = length l.drives.now
