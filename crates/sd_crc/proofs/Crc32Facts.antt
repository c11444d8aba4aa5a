-- Values of the checksum: those that its catalogues give, and that it has 32 bits.
use Rattle.std.proofs.Common.{◌≡◌, ℕ, zero, suc, ◌/◌, ◌^◌, ◌<◌, refl, arith, inl, inr, codes, List, [], ◌∷◌, get_or, fold, lit<}
use Rattle.std.specs.Int.Bits.{bit_xor}
use Rattle.std.proofs.lemmas.Nat.{xor_lt}
use Rattle.sd_crc.specs.Crc32.{polynomial, bit_steps, byte_step, crc32_of}
use Rattle.sd_crc.proofs.BitSteps.{parity, no_bits, one_more}

pub crc32_of-digits : crc32_of (codes "123456789") ≡ 0xCBF43926
unfolding crc32_of bit_steps
crc32_of-digits = refl

pub crc32_of-hello : crc32_of (codes "hello") ≡ 0x3610A686
unfolding crc32_of bit_steps
crc32_of-hello = refl

pub crc32_of-nil : crc32_of [] ≡ 0
unfolding crc32_of
crc32_of-nil = refl

pub bit_steps-lt : (n r : ℕ) → r < 2 ^ 32 → bit_steps n r < 2 ^ 32
bit_steps-lt zero r fits = rw (no_bits r) fits
bit_steps-lt (suc n) r fits = elim (parity r) [
  | inl even ↦ rw (one_more n r, even) (bit_steps-lt n (r / 2) (omega arith))
  | inr odd ↦ rw (one_more n r, odd) (bit_steps-lt n (bit_xor (r / 2) polynomial) (xor_lt 32 (r / 2) polynomial (omega arith) (lit< tt)))
]

register-lt : (r : ℕ) (bytes : List ℕ) → r < 2 ^ 32 → ((i : ℕ) → get_or bytes i 0 < 256) → fold byte_step r bytes < 2 ^ 32
register-lt r [] small fits = small
register-lt r (b ∷ bytes) small fits =
    register-lt (byte_step r b) bytes (bit_steps-lt 8 (bit_xor r b) (xor_lt 32 r b small (omega (arith, fits 0)))) (λ i. fits (suc i))

-- The checksum of bytes fits 32 bits.
pub crc32_of-lt : (bytes : List ℕ) → ((i : ℕ) → get_or bytes i 0 < 256) → crc32_of bytes < 2 ^ 32
unfolding crc32_of
crc32_of-lt bytes fits = xor_lt 32 (fold byte_step 0xFFFFFFFF bytes) 0xFFFFFFFF (register-lt 0xFFFFFFFF bytes (lit< tt) fits) (lit< tt)
