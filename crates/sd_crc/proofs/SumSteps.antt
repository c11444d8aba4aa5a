-- A byte goes from those that follow the sums to the sums.
use Rattle.std.proofs.Common.{◌≡◌, ℕ, zero, suc, ◌+◌, ◌*◌, ◌-◌, ◌<◌, ◌≤◌, refl, sym, ap, ap₂, ◌∙◌, arith, List, [], ◌∷◌, ◌++◌, length, get_or, set, take, drop, replicate, fold}
use Rattle.std.specs.Int.Bits.{bit_xor}
use Rattle.std.proofs.lemmas.Nat.Bits.{same_from_bits, bit_at_xor}
use Rattle.std.specs.Int.{bit_at}
use Rattle.std.proofs.lemmas.List.{length-drop, length-append, length-take-le, length_push, drop-append-le, drop_more, drop-set-add, take_more_set, get_or-take, get_or-drop}
use Rattle.std.proofs.Math.Nat.{add_comm}
use Rattle.sd_crc.specs.Crc32.{bit_steps, byte_step}
use Rattle.sd_crc.specs.Sums.{added, with_sums, register_after}
use Rattle.sd_crc.proofs.BitSteps.{no_bits, bit_steps-xor, joined}
use Rattle.sd_crc.proofs.Sparse.{sparse}
use Rattle.sd_crc.proofs.Effects.{effect, effect-added, fold_zero-effect, effect-cons, effect-drop, effect_push, length-added, get_or-added}

-- What the bytes with the sums do, apart.
abbrev apart : ℕ → List ℕ → List ℕ → ℕ
apart n sums bytes = bit_xor (effect n (drop 155 sums)) (bit_xor (effect n (drop 117 sums)) (bit_xor (effect n (drop 89 sums)) (bit_xor (effect n sums) (effect n bytes))))

effect-with_sums : (n : ℕ) (sums bytes : List ℕ) → effect n (with_sums sums bytes) ≡ apart n sums bytes
effect-with_sums n sums bytes =
    effect-added n (drop 155 sums) (added (drop 117 sums) (added (drop 89 sums) (added sums bytes)))
    ∙ ap (bit_xor (effect n (drop 155 sums))) (effect-added n (drop 117 sums) (added (drop 89 sums) (added sums bytes))
    ∙ ap (bit_xor (effect n (drop 117 sums))) (effect-added n (drop 89 sums) (added sums bytes)
    ∙ ap (bit_xor (effect n (drop 89 sums))) (effect-added n sums bytes)))

pub length-with_sums : (sums bytes : List ℕ) → length sums ≤ length bytes → length (with_sums sums bytes) ≡ length bytes
length-with_sums sums bytes h =
    let a = length-added sums bytes h in
    let b = length-added (drop 89 sums) (added sums bytes) (omega (arith, a, length-drop 89 sums)) in
    let c = length-added (drop 117 sums) (added (drop 89 sums) (added sums bytes)) (omega (arith, a, b, length-drop 117 sums)) in
    let d = length-added (drop 155 sums) (added (drop 117 sums) (added (drop 89 sums) (added sums bytes))) (omega (arith, a, b, c, length-drop 155 sums)) in
    d ∙ c ∙ b ∙ a

register_after-apart : (sums bytes : List ℕ) → length sums ≤ length bytes → register_after sums bytes ≡ apart (length bytes) sums bytes
unfolding register_after
register_after-apart sums bytes h =
    fold_zero-effect (with_sums sums bytes) ∙ ap (λ n. effect n (with_sums sums bytes)) (length-with_sums sums bytes h) ∙ effect-with_sums (length bytes) sums bytes

-- What a byte does, copies of it do at the four places.
byte-sparse : (m s : ℕ) → s < 256 → bit_steps (8 * (301 + m)) s ≡ bit_xor (bit_xor (bit_steps (8 * (156 + m)) s) (bit_steps (8 * (118 + m)) s)) (bit_xor (bit_steps (8 * (90 + m)) s) (bit_steps (8 * (1 + m)) s))
byte-sparse m s small =
    let p = bit_steps 8 s in
    let split : (k : ℕ) → bit_steps (8 * (suc k + m)) s ≡ bit_steps (8 * m) (bit_steps (8 * k) p) =
    λ k. let e : 8 * (suc k + m) ≡ 8 + (8 * k + 8 * m) = omega arith in
    ap (λ i. bit_steps i s) e ∙ sym (joined 8 (8 * k + 8 * m) s) ∙ sym (joined (8 * k) (8 * m) p) in
    rw (split 300, split 155, split 117, split 89, split 0, no_bits p)
    (ap (bit_steps (8 * m)) (sparse 8 s small)
    ∙ bit_steps-xor (8 * m) (bit_xor (bit_steps (8 * 155) p) (bit_steps (8 * 117) p)) (bit_xor (bit_steps (8 * 89) p) p)
    ∙ rw (bit_steps-xor (8 * m) (bit_steps (8 * 155) p) (bit_steps (8 * 117) p), bit_steps-xor (8 * m) (bit_steps (8 * 89) p) p) refl)

sum-steps : (n b h x y z : ℕ) → bit_steps n (bit_xor (bit_xor (bit_xor (bit_xor b h) x) y) z)
    ≡ bit_xor (bit_xor (bit_xor (bit_xor (bit_steps n b) (bit_steps n h)) (bit_steps n x)) (bit_steps n y)) (bit_steps n z)
sum-steps n b h x y z = simp bit_steps-xor

regroup : (a b c d e p q r u v w x y z : ℕ) → bit_xor (bit_xor (bit_xor (bit_xor a b) c) d) e ≡ bit_xor (bit_xor p q) (bit_xor r u)
    → bit_xor (bit_xor e v) (bit_xor (bit_xor d w) (bit_xor (bit_xor c x) (bit_xor (bit_xor b y) (bit_xor a z))))
    ≡ bit_xor (bit_xor v p) (bit_xor (bit_xor w q) (bit_xor (bit_xor x r) (bit_xor (bit_xor y u) z)))
regroup a b c d e p q r u v w x y z same =
    same_from_bits _ _ (λ i. let at = simp bit_at_xor at (ap (λ n. bit_at n i) same) in simp bit_at_xor (omega arith))

pub sum_step : (h b s : ℕ) (t rest : List ℕ) → length t ≡ 299 → 300 ≤ length rest → s ≡ bit_xor (bit_xor (bit_xor (bit_xor b h) (get_or t 88 0)) (get_or t 116 0)) (get_or t 154 0) → s < 256
    → register_after (h ∷ t) (b ∷ rest) ≡ register_after (t ++ s ∷ []) rest
sum_step h b s t rest len long sum small =
    let n = length rest in
    let m = n - 300 in
    let count : suc n ≡ 301 + m = omega arith in
    let x = get_or t 88 0 in
    let y = get_or t 116 0 in
    let z = get_or t 154 0 in
    let one = λ (v : ℕ). bit_steps (8 * suc n) v in
    let pushed : (k j : ℕ) → n ≡ length (drop k t) + j → 0 < j → k ≤ length t → effect n (drop k (t ++ s ∷ [])) ≡ bit_xor (effect n (drop k t)) (bit_steps (8 * j) s) =
    λ k j e some within. ap (effect n) (drop-append-le k t (s ∷ []) within) ∙ effect_push n j s (drop k t) e some in
    let same : bit_xor (bit_xor (bit_xor (bit_xor (one b) (one h)) (one x)) (one y)) (one z)
    ≡ bit_xor (bit_xor (bit_steps (8 * (156 + m)) s) (bit_steps (8 * (118 + m)) s)) (bit_xor (bit_steps (8 * (90 + m)) s) (bit_steps (8 * (1 + m)) s)) =
    sym (sum-steps (8 * suc n) b h x y z) ∙ ap one (sym sum) ∙ ap (λ k. bit_steps (8 * k) s) count ∙ byte-sparse m s small in
    let before : register_after (h ∷ t) (b ∷ rest) ≡ bit_xor (bit_xor (one z) (effect n (drop 155 t))) (bit_xor (bit_xor (one y) (effect n (drop 117 t)))
    (bit_xor (bit_xor (one x) (effect n (drop 89 t))) (bit_xor (bit_xor (one h) (effect n t)) (bit_xor (one b) (effect n rest))))) =
    register_after-apart (h ∷ t) (b ∷ rest) (omega arith)
    ∙ rw (effect-drop n 154 t (omega arith), effect-drop n 116 t (omega arith), effect-drop n 88 t (omega arith), effect-cons n h t, effect-cons n b rest) refl in
    let after : register_after (t ++ s ∷ []) rest ≡ bit_xor (bit_xor (effect n (drop 155 t)) (bit_steps (8 * (156 + m)) s)) (bit_xor (bit_xor (effect n (drop 117 t)) (bit_steps (8 * (118 + m)) s))
    (bit_xor (bit_xor (effect n (drop 89 t)) (bit_steps (8 * (90 + m)) s)) (bit_xor (bit_xor (effect n t) (bit_steps (8 * (1 + m)) s)) (effect n rest)))) =
    register_after-apart (t ++ s ∷ []) rest (omega (arith, length_push t s))
    ∙ rw (
      pushed 155 (156 + m) (omega (arith, length-drop 155 t)) (omega arith) (omega arith),
      pushed 117 (118 + m) (omega (arith, length-drop 117 t)) (omega arith) (omega arith),
      pushed 89 (90 + m) (omega (arith, length-drop 89 t)) (omega arith) (omega arith),
      effect_push n (1 + m) s t (omega arith) (omega arith),
    ) refl in
    before
    ∙ regroup (one b) (one h) (one x) (one y) (one z) (bit_steps (8 * (156 + m)) s) (bit_steps (8 * (118 + m)) s) (bit_steps (8 * (90 + m)) s) (bit_steps (8 * (1 + m)) s)
    (effect n (drop 155 t)) (effect n (drop 117 t)) (effect n (drop 89 t)) (effect n t) (effect n rest) same
    ∙ sym after

-- One byte goes to the sums, if these lie in a list from i on.
pub sum_step_at : (sums bytes rest : List ℕ) (i : ℕ) → i + 300 < length sums → i < length bytes → 300 ≤ length rest
    → bit_xor (bit_xor (bit_xor (bit_xor (get_or bytes i 0) (get_or sums i 0)) (get_or sums (i + 89) 0)) (get_or sums (i + 117) 0)) (get_or sums (i + 155) 0) < 256
    → register_after (take 300 (drop i sums)) (drop i bytes ++ rest)
    ≡ register_after (take 300 (drop (i + 1) (set sums (i + 300) (bit_xor (bit_xor (bit_xor (bit_xor (get_or bytes i 0) (get_or sums i 0)) (get_or sums (i + 89) 0)) (get_or sums (i + 117) 0)) (get_or sums (i + 155) 0)))))
    (drop (i + 1) bytes ++ rest)
sum_step_at sums bytes rest i room within long small =
    let s = bit_xor (bit_xor (bit_xor (bit_xor (get_or bytes i 0) (get_or sums i 0)) (get_or sums (i + 89) 0)) (get_or sums (i + 117) 0)) (get_or sums (i + 155) 0) in
    let t = take 299 (drop (i + 1) sums) in
    let at : (k : ℕ) → k < 299 → get_or t k 0 ≡ get_or sums (i + suc k) 0 =
    λ k h. get_or-take 299 (drop (i + 1) sums) k 0 h ∙ get_or-drop (i + 1) sums k 0 ∙ (let e : i + 1 + k ≡ i + suc k = omega arith in ap (λ j. get_or sums j 0) e) in
    let place : i + 300 ≡ i + 1 + 299 = omega arith in
    let added_up : s ≡ bit_xor (bit_xor (bit_xor (bit_xor (get_or bytes i 0) (get_or sums i 0)) (get_or t 88 0)) (get_or t 116 0)) (get_or t 154 0) =
    rw (at 88 (omega arith), at 116 (omega arith), at 154 (omega arith)) refl in
    let left = length-drop (i + 1) sums in
    rw (drop_more sums i 0 (omega arith), drop_more bytes i 0 within, place, drop-set-add (i + 1) sums 299 s, take_more_set (drop (i + 1) sums) 299 s (omega arith))
    (sum_step (get_or sums i 0) (get_or bytes i 0) s t (drop (i + 1) bytes ++ rest) (length-take-le 299 (drop (i + 1) sums) (omega arith)) (omega (arith, length-append (drop (i + 1) bytes) rest)) added_up small)

pub get_or-with_sums : (sums bytes : List ℕ) (i : ℕ) → get_or (with_sums sums bytes) i 0
    ≡ bit_xor (bit_xor (bit_xor (bit_xor (get_or bytes i 0) (get_or sums i 0)) (get_or sums (i + 89) 0)) (get_or sums (i + 117) 0)) (get_or sums (i + 155) 0)
get_or-with_sums sums bytes i =
    let at : (k : ℕ) → get_or (drop k sums) i 0 ≡ get_or sums (i + k) 0 = λ k. get_or-drop k sums i 0 ∙ ap (λ j. get_or sums j 0) (add_comm k i) in
    get_or-added (drop 155 sums) (added (drop 117 sums) (added (drop 89 sums) (added sums bytes))) i
    ∙ ap₂ bit_xor (at 155) (get_or-added (drop 117 sums) (added (drop 89 sums) (added sums bytes)) i
    ∙ ap₂ bit_xor (at 117) (get_or-added (drop 89 sums) (added sums bytes) i
    ∙ ap₂ bit_xor (at 89) (get_or-added sums bytes i)))
    ∙ same_from_bits _ _ (λ j. simp bit_at_xor (omega arith))

ones : fold byte_step 0 (0x62 ∷ 0xf5 ∷ 0x26 ∷ 0x92 ∷ []) ≡ 0xFFFFFFFF
unfolding bit_steps
ones = refl

-- Sums of 0 add nothing.
added-zeros : (n : ℕ) (ys : List ℕ) → n ≤ length ys → added (replicate n 0) ys ≡ ys
added-zeros zero ys h = refl
added-zeros (suc n) [] h = absurd (omega arith)
added-zeros (suc n) (y ∷ ys) h = ap (λ zs. y ∷ zs) (added-zeros n ys (omega arith))

pub register_after-zeros : (rest : List ℕ) → 300 ≤ length rest → register_after (replicate 300 0) rest ≡ fold byte_step 0 rest
unfolding register_after
register_after-zeros rest long =
    let none : (n : ℕ) → n ≤ 300 → added (replicate n 0) rest ≡ rest = λ n h. added-zeros n rest (omega arith) in
    let three : (i j k l : ℕ) → i ≤ 300 → j ≤ 300 → k ≤ 300 → l ≤ 300 → added (replicate i 0) (added (replicate j 0) (added (replicate k 0) (added (replicate l 0) rest))) ≡ rest =
    λ i j k l hi hj hk hl. rw (none l hl, none k hk, none j hj) (none i hi) in
    ap (fold byte_step 0) (three 145 183 211 300 (omega arith) (omega arith) (omega arith) (omega arith))

-- The four bytes that leave a register of ones.
pub after_start : (rest : List ℕ) → fold byte_step 0 (0x62 ∷ 0xf5 ∷ 0x26 ∷ 0x92 ∷ rest) ≡ fold byte_step 0xFFFFFFFF rest
after_start rest = ap (λ r. fold byte_step r rest) ones
