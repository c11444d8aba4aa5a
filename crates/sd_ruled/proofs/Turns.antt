-- A queue that is turned round piece by piece.
use Rattle.std.proofs.Common.{◌≡◌, ◌<◌, ◌+◌, ℕ, zero, suc, List, [], ◌∷◌, ◌++◌, take, drop, length, sym, refl, ap, ◌∙◌, append_assoc, arith}
use Rattle.sd_lane.specs.declared.piece.Queued.{Queued}

-- the piece at this place
split_at : (i : ℕ) (xs : List Queued) → i < length xs → (x : Queued) × (drop i xs ≡ x ∷ drop (suc i) xs) × (take (suc i) xs ≡ take i xs ++ x ∷ [])
split_at i [] less = absurd (omega arith)
split_at zero (x ∷ xs) less = (x, refl, refl)
split_at (suc i) (x ∷ xs) less = let r = split_at i xs (omega arith) in (r.0, r.1, ap (λ l. x ∷ l) r.2)

-- one piece more, if so many went round
pub one_more : (i : ℕ) (xs now : List Queued) → i < length xs → now ≡ drop i xs ++ take i xs → drop 1 now ++ take 1 now ≡ drop (i + 1) xs ++ take (i + 1) xs
one_more i xs now less e =
    let r = split_at i xs less in
    let is : now ≡ r.0 ∷ (drop (suc i) xs ++ take i xs) = e ∙ ap (λ l. l ++ take i xs) r.1 in
    let next : suc i ≡ i + 1 = omega arith in
    ap (λ l. drop 1 l ++ take 1 l) is ∙ (append_assoc (drop (suc i) xs) (take i xs) (r.0 ∷ []) ∙ (ap (λ l. drop (suc i) xs ++ l) (sym r.2) ∙ ap (λ j. drop j xs ++ take j xs) next))

-- the last one, which was the first, is in front again
pub all_round : (rest : List Queued) (q : Queued) → drop (length rest) (rest ++ q ∷ []) ++ take (length rest) (rest ++ q ∷ []) ≡ q ∷ rest
all_round rest q = ap (λ l. l ++ take (length rest) (rest ++ q ∷ [])) (dropped rest) ∙ ap (λ l. q ∷ l) (kept rest)
  where
    dropped : (xs : List Queued) → drop (length xs) (xs ++ q ∷ []) ≡ q ∷ []
    dropped [] = refl
    dropped (x ∷ xs) = dropped xs

    kept : (xs : List Queued) → take (length xs) (xs ++ q ∷ []) ≡ xs
    kept [] = refl
    kept (x ∷ xs) = ap (λ l. x ∷ l) (kept xs)
