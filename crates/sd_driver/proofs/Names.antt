-- Names are lists of numbers, of which two are one or not.
use Rattle.std.proofs.Common.{◌≡◌, ◌≢◌, ℕ, Bool, true, false, ◌⊎◌, inl, inr, List, refl}
use Rattle.std.specs.Str.{bytes_eq}
use Rattle.std.proofs.lemmas.Slice.Eq.{bytes_eq-Decides}

-- two names are one, or they are not
pub name_cases : (a b : List ℕ) → (a ≡ b) ⊎ (a ≢ b)
name_cases a b = from (bytes_eq a b) refl
  where
    from : (c : Bool) → bytes_eq a b ≡ c → (a ≡ b) ⊎ (a ≢ b)
    from true h = inl ((bytes_eq-Decides a b).0 h)
    from false h = inr (λ e. (let t = (bytes_eq-Decides a b).1 e in cc))
