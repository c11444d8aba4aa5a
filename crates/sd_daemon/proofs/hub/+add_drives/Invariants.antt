use Rattle.std.proofs.Common.{length}
use Rattle.sd_daemon.proofs.hub.+add_drives.Given as goal

abbrev pub decreases-add_drives : goal.decreases-add_drives
decreases-add_drives g l = length l.confs.now
