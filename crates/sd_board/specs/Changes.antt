-- What is at one place of a list changes.
use Rattle.std.specs.Prelude.{ℕ, zero, suc, List, [], ◌∷◌}

-- the list with what is at this place changed so, if anything is there
abbrev pub change_at : {A : Type 0} → (A → A) → ℕ → List A → List A
change_at f at [] = []
change_at f zero (x ∷ xs) = f x ∷ xs
change_at f (suc at) (x ∷ xs) = x ∷ change_at f at xs
