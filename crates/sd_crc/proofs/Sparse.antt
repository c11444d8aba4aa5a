-- 300 bytes do what 155, 117, 89 and 0 bytes do, added.
use Rattle.std.proofs.Common.{◌≡◌, ℕ, zero, suc, ◌*◌, ◌/◌, ◌^◌, ◌<◌, refl, sym, ap, ◌∙◌, arith, inl, inr}
use Rattle.std.specs.Int.Bits.{bit_xor}
use Rattle.std.proofs.lemmas.Nat.Bits.{same_from_bits, bit_at_xor}
use Rattle.std.proofs.Math.Nat.{pow-suc, add_comm}
use Rattle.sd_crc.specs.Crc32.{polynomial, bit_step, bit_steps}
use Rattle.sd_crc.proofs.BitSteps.{parity, one_more, from_zero, bit_steps-xor, joined}

abbrev fewer : ℕ → ℕ
fewer r = bit_xor (bit_xor (bit_steps (8 * 155) r) (bit_steps (8 * 117) r)) (bit_xor (bit_steps (8 * 89) r) r)

fewer-xor : (a b : ℕ) → bit_xor (fewer a) (fewer b) ≡ fewer (bit_xor a b)
fewer-xor a b = simp bit_steps-xor (same_from_bits _ _ (λ i. simp bit_at_xor (omega arith)))

in_turn : (m n r : ℕ) → bit_steps m (bit_steps n r) ≡ bit_steps n (bit_steps m r)
in_turn m n r = joined n m r ∙ ap (λ k. bit_steps k r) (add_comm n m) ∙ sym (joined m n r)

-- The fact that is computed, and it after n bits.
at_polynomial : bit_steps (8 * 300) polynomial ≡ fewer polynomial
unfolding bit_steps
at_polynomial = refl

later : (n : ℕ) → bit_steps (8 * 300) (bit_steps n polynomial) ≡ fewer (bit_steps n polynomial)
later n =
    in_turn (8 * 300) n polynomial ∙ ap (bit_steps n) at_polynomial
    ∙ simp bit_steps-xor (rw (in_turn n (8 * 155) polynomial, in_turn n (8 * 117) polynomial, in_turn n (8 * 89) polynomial) refl)

-- It holds of what any number of n places leaves after n bits.
pub sparse : (n x : ℕ) → x < 2 ^ n → bit_steps (8 * 300) (bit_steps n x) ≡ fewer (bit_steps n x)
sparse zero x small = let none : x ≡ 0 = omega arith in rw none (simp from_zero)
sparse (suc n) x small =
    let half : x / 2 < 2 ^ n = omega (arith, pow-suc 2 n) in
    elim (parity x) [
      | inl even ↦ let e : bit_step x ≡ x / 2 = rw even refl in rw (one_more n x, e) (sparse n (x / 2) half)
      | inr odd ↦
          let e : bit_step x ≡ bit_xor (x / 2) polynomial = rw odd refl in
          let h = bit_steps n (x / 2) in
          let p = bit_steps n polynomial in
          rw (one_more n x, e, bit_steps-xor n (x / 2) polynomial)
          (bit_steps-xor (8 * 300) h p ∙ rw (sparse n (x / 2) half, later n) (fewer-xor h p))
    ]
