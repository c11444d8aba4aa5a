use Rattle.std.proofs.Common.{vec_len}
use Rattle.sd_core.proofs.new_drives.+unmake_drives.Given as goal

abbrev pub decreases-unmake_drives : goal.decreases-unmake_drives
decreases-unmake_drives g l = vec_len l.drives.now
