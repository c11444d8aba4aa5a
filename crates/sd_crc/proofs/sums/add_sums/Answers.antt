use Rattle.std.proofs.Common.{◌≡◌, ◌+◌, ◌^◌, ◌<◌, length, get_or, refl, ◌∙◌, arith}
use Rattle.std.proofs.lemmas.Nat.{xor_lt}
use Rattle.std.proofs.lemmas.List.{drop_all}
use Rattle.sd_crc.proofs.SumSteps.{sum_step_at}
use Rattle.sd_crc.proofs.sums.add_sums.Goals as goal

pub loop-i-preserved : goal.loop-i-preserved
loop-i-preserved c = λ rest long.
    let i = c.loop-i.i in
    let sums = c.loop-i.sums in
    let bytes = c.args.bytes.now in
    let b : get_or bytes i 0 < 2 ^ 8 = omega arith in
    let h : get_or sums i 0 < 2 ^ 8 = omega arith in
    let x : get_or sums (i + 89) 0 < 2 ^ 8 = omega arith in
    let y : get_or sums (i + 117) 0 < 2 ^ 8 = omega arith in
    let z : get_or sums (i + 155) 0 < 2 ^ 8 = omega arith in
    let small = xor_lt 8 _ _ (xor_lt 8 _ _ (xor_lt 8 _ _ (xor_lt 8 _ _ b h) x) y) z in
    c.loop-i.invariant rest long ∙ sum_step_at sums bytes rest i (omega arith) (omega arith) long small

pub returns : goal.returns
returns c = λ rest long.
    let end : c.loop-i.i ≡ length c.args.bytes.now = omega arith in
    c.loop-i.invariant rest long ∙ rw (end, drop_all (length c.args.bytes.now) c.args.bytes.now (omega arith)) refl
