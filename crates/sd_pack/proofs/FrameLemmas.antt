-- What is added after the room for a block's header.
use Rattle.std.proofs.Common.{◌≡◌, ℕ, ◌≤◌, List, ◌++◌, length, drop, ap, ◌∙◌}
use Rattle.std.proofs.lemmas.List.{drop-append-le}

-- it is added to the body
pub added : (old begun new more : List ℕ) → 24 ≤ length begun → drop 24 begun ≡ drop 24 old → new ≡ begun ++ more
    → drop 24 new ≡ drop 24 old ++ more
added old begun new more room same is =
    ap (drop 24) is ∙ (drop-append-le 24 begun more room ∙ ap (λ (front : List ℕ). front ++ more) same)
