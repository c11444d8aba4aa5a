use Rattle.std.proofs.Common.{vec_len}
use Rattle.sd_core.proofs.new_bays.+make_bays.Given as goal

abbrev pub decreases-make_bays : goal.decreases-make_bays
decreases-make_bays g l = vec_len l.drives.now
