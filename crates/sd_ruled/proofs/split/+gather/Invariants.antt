use Rattle.std.proofs.Common.{length}
use Rattle.sd_ruled.proofs.split.+gather.Given as goal

abbrev pub decreases-gather : goal.decreases-gather
decreases-gather l = length l.seats.items
