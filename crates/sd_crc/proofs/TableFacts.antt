-- The table has what each byte is after eight bits.
use Rattle.std.proofs.Common.{◌≡◌, ℕ, ◌/◌, ◌%◌, ◌<◌, refl, ap, sym, ◌∙◌, arith, get_or}
use Rattle.std.specs.Prelude.{map, bit_and}
use Rattle.std.specs.List.{range_with_len}
use Rattle.std.specs.Int.Bits.{bit_xor, xor_shr, xor_zero_r}
use Rattle.std.proofs.lemmas.Nat.{and_mask}
use Rattle.std.proofs.lemmas.Nat.Bits.{same_from_bits, bit_at_xor}
use Rattle.std.proofs.lemmas.List.FromFn.{get_or-map-range_with_len}
use Rattle.sd_crc.specs.Crc32.{bit_steps, byte_step}
use Rattle.sd_crc.specs.declared.table.TheConstants.{TABLE}
use Rattle.sd_crc.proofs.BitSteps.{no_bits, bit_steps-xor, bit_steps-split}

table_is : TABLE ≡ map (bit_steps 8) (range_with_len 0 256)
unfolding bit_steps
table_is = refl

table_at : (i : ℕ) → i < 256 → get_or TABLE i 0 ≡ bit_steps 8 i
table_at i h = ap (λ t. get_or t i 0) table_is ∙ get_or-map-range_with_len (bit_steps 8) 0 256 i i 0 h (omega arith)

-- The low byte steps, and the others move down.
low_byte : (r n : ℕ) → bit_steps 8 (bit_xor r n) ≡ bit_xor (byte_step r (n % 256)) (n / 256)
low_byte r n =
    bit_steps-xor 8 r n ∙ ap (bit_xor (bit_steps 8 r)) (bit_steps-split 8 0 n)
    ∙ rw (no_bits (n / 256), bit_steps-xor 8 r (n % 256)) (same_from_bits _ _ (λ i. simp bit_at_xor (omega arith)))

-- A byte by the table.
pub byte_by_table : (r b : ℕ) → b < 256 → bit_xor (get_or TABLE (bit_and (bit_xor r b) 255) 0) (r / 256) ≡ byte_step r b
byte_by_table r b h =
    let n = bit_xor r b in
    let none : b / 256 ≡ 0 = omega arith in
    let high : r / 256 ≡ n / 256 = sym (xor_shr r b 8 ∙ ap (bit_xor (r / 256)) none ∙ xor_zero_r (r / 256)) in
    rw (and_mask n 8, table_at (n % 256) (omega arith), high) (sym (low_byte 0 n))
