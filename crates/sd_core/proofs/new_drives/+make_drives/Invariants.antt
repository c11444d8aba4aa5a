use Rattle.std.proofs.Common.{vec_len}
use Rattle.sd_core.proofs.new_drives.+make_drives.Given as goal

abbrev pub decreases-make_drives : goal.decreases-make_drives
decreases-make_drives g l = vec_len l.drivers.now
