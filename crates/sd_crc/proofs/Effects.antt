-- What each byte does to the register that all of them leave.
use Rattle.std.proofs.Common.{◌≡◌, ℕ, zero, suc, ◌+◌, ◌*◌, ◌<◌, ◌≤◌, refl, sym, ap, ap₂, ◌∙◌, arith, List, [], ◌∷◌, ◌++◌, length, get_or, drop, fold}
use Rattle.std.specs.Int.Bits.{bit_xor, xor_zero_r}
use Rattle.std.proofs.lemmas.Nat.Bits.{same_from_bits, bit_at_xor}
use Rattle.std.proofs.lemmas.List.{drop_more}
use Rattle.sd_crc.specs.Crc32.{bit_steps, byte_step}
use Rattle.sd_crc.specs.Sums.{added}
use Rattle.sd_crc.proofs.BitSteps.{no_bits, from_zero, bit_steps-xor, joined}

-- What bytes at the front of n bytes do.
unfoldable pub effect : ℕ → List ℕ → ℕ
effect n [] = 0
effect zero (x ∷ xs) = 0
effect (suc n) (x ∷ xs) = bit_xor (bit_steps (8 * suc n) x) (effect n xs)

pub effect-added : (n : ℕ) (xs ys : List ℕ) → effect n (added xs ys) ≡ bit_xor (effect n xs) (effect n ys)
unfolding effect
effect-added n [] ys = refl
effect-added n (x ∷ xs) [] = sym (xor_zero_r (effect n (x ∷ xs)))
effect-added zero (x ∷ xs) (y ∷ ys) = refl
effect-added (suc n) (x ∷ xs) (y ∷ ys) =
    ap₂ bit_xor (bit_steps-xor (8 * suc n) x y) (effect-added n xs ys) ∙ same_from_bits _ _ (λ i. simp bit_at_xor (omega arith))

pub fold-effect : (r : ℕ) (ys : List ℕ) → fold byte_step r ys ≡ bit_xor (bit_steps (8 * length ys) r) (effect (length ys) ys)
unfolding effect
fold-effect r [] = sym (ap (λ x. bit_xor x 0) (no_bits r) ∙ xor_zero_r r)
fold-effect r (y ∷ ys) =
    let n = length ys in
    let eight : 8 + 8 * n ≡ 8 * suc n = omega arith in
    fold-effect (byte_step r y) ys
    ∙ ap (λ x. bit_xor x (effect n ys)) (joined 8 (8 * n) (bit_xor r y) ∙ ap (λ k. bit_steps k (bit_xor r y)) eight ∙ bit_steps-xor (8 * suc n) r y)
    ∙ same_from_bits _ _ (λ i. simp bit_at_xor (omega arith))

pub fold_zero-effect : (ys : List ℕ) → fold byte_step 0 ys ≡ effect (length ys) ys
fold_zero-effect ys = fold-effect 0 ys ∙ ap (λ x. bit_xor x (effect (length ys) ys)) (from_zero (8 * length ys))

pub effect-cons : (n x : ℕ) (xs : List ℕ) → effect (suc n) (x ∷ xs) ≡ bit_xor (bit_steps (8 * suc n) x) (effect n xs)
unfolding effect
effect-cons n x xs = refl

pub effect-drop : (n k : ℕ) (xs : List ℕ) → k < length xs → effect (suc n) (drop k xs) ≡ bit_xor (bit_steps (8 * suc n) (get_or xs k 0)) (effect n (drop (k + 1) xs))
effect-drop n k xs h = ap (effect (suc n)) (drop_more xs k 0 h) ∙ effect-cons n (get_or xs k 0) (drop (k + 1) xs)

pub effect_push : (n j s : ℕ) (xs : List ℕ) → n ≡ length xs + j → 0 < j → effect n (xs ++ s ∷ []) ≡ bit_xor (effect n xs) (bit_steps (8 * j) s)
unfolding effect
effect_push zero j s xs e some = absurd (omega arith)
effect_push (suc n) j s [] e some = let same : j ≡ suc n = omega arith in rw same (xor_zero_r (bit_steps (8 * suc n) s))
effect_push (suc n) j s (x ∷ xs) e some =
    ap (bit_xor (bit_steps (8 * suc n) x)) (effect_push n j s xs (omega arith) some) ∙ same_from_bits _ _ (λ i. simp bit_at_xor (omega arith))

pub length-added : (xs ys : List ℕ) → length xs ≤ length ys → length (added xs ys) ≡ length ys
length-added [] ys h = refl
length-added (x ∷ xs) [] h = absurd (omega arith)
length-added (x ∷ xs) (y ∷ ys) h = ap suc (length-added xs ys (omega arith))

pub get_or-added : (xs ys : List ℕ) (i : ℕ) → get_or (added xs ys) i 0 ≡ bit_xor (get_or xs i 0) (get_or ys i 0)
get_or-added [] ys i = refl
get_or-added (x ∷ xs) [] i = sym (xor_zero_r (get_or (x ∷ xs) i 0))
get_or-added (x ∷ xs) (y ∷ ys) zero = refl
get_or-added (x ∷ xs) (y ∷ ys) (suc i) = get_or-added xs ys i
