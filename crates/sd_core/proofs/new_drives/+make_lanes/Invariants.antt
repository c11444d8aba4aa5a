use Rattle.std.proofs.Common.{vec_len}
use Rattle.sd_core.proofs.new_drives.+make_lanes.Given as goal

abbrev pub decreases-make_lanes : goal.decreases-make_lanes
decreases-make_lanes g l = vec_len l.stores.now
