-- One question more.
use Rattle.std.proofs.Common.{◌≡◌, List, [], ◌∷◌, ◌++◌, refl, ap}
use Rattle.sd_append.specs.Seen.{exchange_of, asked_of}
use Rattle.sd_append.specs.declared.exchanges.Seen.{Seen}

-- what was seen last is the last exchange
pub asked_more : (xs : List Seen) (x : Seen) → asked_of (xs ++ x ∷ []) ≡ asked_of xs ++ exchange_of x ∷ []
asked_more [] x = refl
asked_more (y ∷ xs) x = ap (λ rest. exchange_of y ∷ rest) (asked_more xs x)
