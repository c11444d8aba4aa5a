use Rattle.std.proofs.Common.{◌∷◌, sym, ◌∙◌, arith}
use Rattle.sd_crc.proofs.SumSteps.{register_after-zeros, after_start}
use Rattle.sd_crc.proofs.sums.Sums.new.Goals as goal

pub returns : goal.returns
returns c = λ rest long. sym (c.take_block.ensures rest long) ∙ register_after-zeros (0x62 ∷ 0xf5 ∷ 0x26 ∷ 0x92 ∷ rest) (omega arith) ∙ after_start rest
