-- What is so of the one drive.
use Rattle.std.proofs.Common.{◌≡◌, List, [], ◌∷◌, sym, subst}
use Rattle.std.specs.Prelude.{All}
use Rattle.std.proofs.lemmas.List.Elements.{All-nil, All-cons}

-- what is so of one is so of each in its list
pub all_of_one : {A : Type 0} (P : A → Type 0) (xs : List A) (x : A) → xs ≡ x ∷ [] → P x → All P xs
all_of_one P xs x is one = subst (All P) (sym is) (All-cons P x [] one (All-nil P))
