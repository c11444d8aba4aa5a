use Rattle.std.proofs.Common.{length}
use Rattle.sd_filedrive.proofs.files.+torn_in.Given as goal

abbrev pub decreases-torn_in : goal.decreases-torn_in
decreases-torn_in l = length l.torn.now
