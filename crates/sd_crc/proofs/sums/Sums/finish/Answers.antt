use Rattle.std.proofs.Common.{take, fold, ap, sym, ◌∙◌, arith}
use Rattle.std.proofs.lemmas.List.{take_all, length-take}
use Rattle.std.proofs.lemmas.List.Sums.{fold_more}
use Rattle.sd_crc.specs.Crc32.{byte_step}
use Rattle.sd_crc.specs.Sums.{with_sums, register_after}
use Rattle.sd_crc.proofs.SumSteps.{length-with_sums, get_or-with_sums}
use Rattle.sd_crc.proofs.sums.Sums.finish.Goals as goal

pub loop-i-preserved : goal.loop-i-preserved
loop-i-preserved c =
    let w = take 300 c.args.self.now.places in
    let last = c.args.last.now in
    let i = c.loop-i.i in
    let long = length-with_sums w last (omega (arith, length-take 300 c.args.self.now.places)) in
    let sum = get_or-with_sums w last i in
    c.take_byte-register.ensures ∙ (cc) ∙ sym (fold_more byte_step 0 (with_sums w last) i 0 (omega arith))

pub returns : goal.returns
unfolding register_after
returns c =
    let w = take 300 c.args.self.now.places in
    let last = c.args.last.now in
    let long = length-with_sums w last (omega (arith, length-take 300 c.args.self.now.places)) in
    c.loop-i.invariant ∙ ap (fold byte_step 0) (take_all c.loop-i.i (with_sums w last) (omega arith))
