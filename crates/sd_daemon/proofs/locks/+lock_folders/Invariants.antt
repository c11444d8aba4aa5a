use Rattle.std.proofs.Common.{length}
use Rattle.sd_daemon.proofs.locks.+lock_folders.Given as goal

abbrev pub decreases-lock_folders : goal.decreases-lock_folders
decreases-lock_folders l = length l.drives.now
