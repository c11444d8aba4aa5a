use Rattle.std.proofs.Common.{length}
use Rattle.sd_daemon.proofs.drives.+devices_of.Given as goal

abbrev pub decreases-devices_of : goal.decreases-devices_of
decreases-devices_of l = length l.drives.now
