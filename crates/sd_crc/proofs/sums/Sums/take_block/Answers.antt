use Rattle.std.proofs.Common.{◌≡◌, ℕ, List, length, take, drop, ap, sym, ◌∙◌, arith}
use Rattle.sd_crc.specs.Sums.{register_after}
use Rattle.sd_crc.proofs.Blocks.{take-copy_within}
use Rattle.sd_crc.proofs.sums.Sums.take_block.Goals as goal

pub returns : goal.returns
returns c = λ rest long.
    let sums = c.add_sums.new.sums in
    let k = length c.args.block.now in
    let moved : take 300 c.copy_within.new.self ≡ take 300 (drop k sums) = ap (take 300) c.copy_within.ensures.after ∙ take-copy_within 300 k sums (omega arith) in
    c.add_sums.ensures rest long ∙ ap (λ (w : List ℕ). register_after w rest) (sym moved)
