-- Bytes block by block.
use Rattle.std.proofs.Common.{◌≡◌, ℕ, zero, suc, ◌+◌, ◌-◌, ◌*◌, ◌<◌, ◌≤◌, sym, ap, ◌∙◌, arith, List, [], ◌++◌, length, get_or, take, drop, append_assoc}
use Rattle.std.specs.List.{copy_within}
use Rattle.std.specs.Simd.{first_chunks}
use Rattle.std.proofs.lemmas.List.{drop-drop, take_at, take-append-drop, length-drop, length-take-le}
use Rattle.std.proofs.Math.Seq.{take-add}

-- The chunk at i.
get_or-first_chunks : (n k i : ℕ) (bs : List ℕ) → i < k → get_or (first_chunks n k bs) i [] ≡ take n (drop (i * n) bs)
get_or-first_chunks n zero i bs h = absurd (omega arith)
get_or-first_chunks n (suc k) zero bs h = let e : 0 ≡ 0 * n = omega arith in ap (λ j. take n (drop j bs)) e
get_or-first_chunks n (suc k) (suc i) bs h =
    let e : n + i * n ≡ suc i * n = omega arith in
    get_or-first_chunks n k i (drop n bs) (omega arith) ∙ ap (take n) (drop-drop (i * n) n bs ∙ ap (λ j. drop j bs) e)

pub chunk_more : (n k i : ℕ) (bs rest : List ℕ) (chunks : List (List ℕ)) → chunks ≡ first_chunks n k bs → i < k
    → take (i * n) bs ++ (get_or chunks i [] ++ rest) ≡ take ((i + 1) * n) bs ++ rest
chunk_more n k i bs rest chunks is h =
    let e : (i + 1) * n ≡ i * n + n = omega arith in
    ap (λ c. take (i * n) bs ++ (c ++ rest)) (ap (λ cs. get_or cs i []) is ∙ get_or-first_chunks n k i bs h)
    ∙ sym (append_assoc (take (i * n) bs) (take n (drop (i * n) bs)) rest)
    ∙ ap (λ c. c ++ rest) (sym (ap (λ m. take m bs) e ∙ take-add (i * n) n bs))

pub chunks_all : (n : ℕ) (bs rest : List ℕ) → take n bs ++ (drop n bs ++ rest) ≡ bs ++ rest
chunks_all n bs rest = sym (append_assoc (take n bs) (drop n bs) rest) ∙ ap (λ c. c ++ rest) (take-append-drop n bs)

-- What is copied to the front.
pub take-copy_within : (n k : ℕ) (xs : List ℕ) → k + n ≤ length xs → take n (copy_within xs k (k + n) 0) ≡ take n (drop k xs)
take-copy_within n k xs room =
    let e : k + n - k ≡ n = omega arith in
    rw e (take_at (take n (drop k xs)) (drop (0 + n) xs) n (length-take-le n (drop k xs) (omega (arith, length-drop k xs))))
