use Rattle.std.proofs.Common.{◌≡◌, ℕ, ◌-◌, ◌++◌, length, fold, ap, ◌∙◌, arith}
use Rattle.std.specs.Int.Bits.{bit_xor}
use Rattle.std.proofs.lemmas.List.{take-append-drop, length-drop}
use Rattle.sd_crc.specs.Crc32.{byte_step, crc32_of}
use Rattle.sd_crc.proofs.crc32.Goals as goal

pub returns : goal.returns
unfolding crc32_of
returns c =
    let bytes = c.args.bytes.now in
    let split = c.in-Some.ensures.cases in
    let last = c.in-Some.last.now in
    let joined : c.in-Some.front.now ++ last ≡ bytes = rw (split.0, split.1) (take-append-drop (length bytes - 300) bytes) in
    ap (λ (r : ℕ). bit_xor r 0xFFFFFFFF)
    (c.finish.ensures ∙ c.after.ensures last (omega (arith, ap length split.1, length-drop (length bytes - 300) bytes, split.2)) ∙ ap (fold byte_step 0xFFFFFFFF) joined)
