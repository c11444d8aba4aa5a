use Rattle.std.proofs.Common.{◌≡◌, take, fold}
use Rattle.sd_crc.specs.Crc32.{byte_step}
use Rattle.sd_crc.specs.Sums.{with_sums}
use Rattle.sd_crc.proofs.sums.Sums.finish.Given as goal

abbrev pub invariant-loop-i : goal.invariant-loop-i
invariant-loop-i l = l.register ≡ fold byte_step 0 (take l.i (with_sums l.sums l.last))
