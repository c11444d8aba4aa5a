-- Bits are linear for exclusive or, and places that do not reach the low end only move down.
use Rattle.std.proofs.Common.{◌≡◌, ℕ, zero, suc, ◌+◌, ◌*◌, ◌/◌, ◌%◌, ◌^◌, refl, sym, ap, ◌∙◌, arith, inl, inr, ◌⊎◌}
use Rattle.std.specs.Int.Bits.{bit_xor, xor_shr, xor_mod, xor_shifted}
use Rattle.std.proofs.lemmas.Nat.{shr_split, mod_below, pow_pos}
use Rattle.std.proofs.lemmas.Nat.Bits.{same_from_bits, bit_at_xor}
use Rattle.std.proofs.Math.Nat.{pow-suc}
use Rattle.sd_crc.specs.Crc32.{bit_step, bit_steps}

pub parity : (n : ℕ) → (n % 2 ≡ 0) ⊎ (n % 2 ≡ 1)
parity n = grind arith

pub no_bits : (r : ℕ) → bit_steps 0 r ≡ r
unfolding bit_steps
no_bits r = refl

pub one_more : (n r : ℕ) → bit_steps (suc n) r ≡ bit_steps n (bit_step r)
unfolding bit_steps
one_more n r = refl

pub from_zero : (n : ℕ) → bit_steps n 0 ≡ 0
from_zero zero = no_bits 0
from_zero (suc n) = one_more n 0 ∙ from_zero n

bit_step-xor : (a b : ℕ) → (a % 2 ≡ 0) ⊎ (a % 2 ≡ 1) → (b % 2 ≡ 0) ⊎ (b % 2 ≡ 1) → bit_step (bit_xor a b) ≡ bit_xor (bit_step a) (bit_step b)
bit_step-xor a b (inl p) (inl q) = rw (xor_mod a b 1, xor_shr a b 1, p, q) refl
bit_step-xor a b (inl p) (inr q) = rw (xor_mod a b 1, xor_shr a b 1, p, q) (same_from_bits _ _ (λ i. simp bit_at_xor (omega arith)))
bit_step-xor a b (inr p) (inl q) = rw (xor_mod a b 1, xor_shr a b 1, p, q) (same_from_bits _ _ (λ i. simp bit_at_xor (omega arith)))
bit_step-xor a b (inr p) (inr q) = rw (xor_mod a b 1, xor_shr a b 1, p, q) (same_from_bits _ _ (λ i. simp bit_at_xor (omega arith)))

pub bit_steps-xor : (n a b : ℕ) → bit_steps n (bit_xor a b) ≡ bit_xor (bit_steps n a) (bit_steps n b)
bit_steps-xor zero a b = simp no_bits
bit_steps-xor (suc n) a b = rw (one_more n (bit_xor a b), bit_step-xor a b (parity a) (parity b), bit_steps-xor n (bit_step a) (bit_step b)) (simp one_more)

-- Bits after bits.
pub joined : (m n r : ℕ) → bit_steps n (bit_steps m r) ≡ bit_steps (m + n) r
joined zero n r = let e : n ≡ zero + n = omega arith in rw no_bits (ap (λ k. bit_steps k r) e)
joined (suc m) n r = let e : suc (m + n) ≡ suc m + n = omega arith in rw one_more (joined m n (bit_step r) ∙ sym (one_more (m + n) r) ∙ ap (λ k. bit_steps k r) e)

pub bit_step-even : (x : ℕ) → bit_step (x * 2) ≡ x
bit_step-even x =
    let low : x * 2 % 2 ≡ 0 = omega arith in
    let rest : x * 2 / 2 ≡ x = omega arith in
    rw (low, rest) refl

-- What is n places up has moved down after n bits.
pub bit_steps-high : (n x : ℕ) → bit_steps n (x * 2 ^ n) ≡ x
bit_steps-high zero x = no_bits (x * 2 ^ zero) ∙ omega arith
bit_steps-high (suc n) x =
    let e : x * 2 ^ suc n ≡ x * 2 ^ n * 2 = rw (pow-suc 2 n) (omega arith) in
    one_more n (x * 2 ^ suc n) ∙ ap (λ y. bit_steps n (bit_step y)) e ∙ ap (bit_steps n) (bit_step-even (x * 2 ^ n)) ∙ bit_steps-high n x

-- A number of places from n on, and those below, step apart.
pub bit_steps-split : (n k x : ℕ) → bit_steps (n + k) x ≡ bit_xor (bit_steps k (x / 2 ^ n)) (bit_steps (n + k) (x % 2 ^ n))
bit_steps-split n k x =
    let high = x / 2 ^ n * 2 ^ n in
    let low = x % 2 ^ n in
    let parts : x ≡ bit_xor high low = sym (xor_shifted (x / 2 ^ n) n low (mod_below x (2 ^ n) (pow_pos n)) ∙ shr_split x n) in
    ap (bit_steps (n + k)) parts ∙ bit_steps-xor (n + k) high low
    ∙ ap (λ z. bit_xor z (bit_steps (n + k) low)) (sym (joined n k high) ∙ ap (bit_steps k) (bit_steps-high n (x / 2 ^ n)))
