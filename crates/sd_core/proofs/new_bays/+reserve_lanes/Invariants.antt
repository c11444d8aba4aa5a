use Rattle.std.proofs.Common.{length}
use Rattle.sd_core.proofs.new_bays.+reserve_lanes.Given as goal

abbrev pub decreases-reserve_lanes : goal.decreases-reserve_lanes
decreases-reserve_lanes g l = length l.spools.now
