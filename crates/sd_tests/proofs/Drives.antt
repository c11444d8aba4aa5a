-- The settings of one drive of one lane.
use Rattle.std.proofs.Common.{◌≡◌, ℕ, List, [], ◌∷◌, sym, subst}
use Rattle.std.specs.Prelude.{All}
use Rattle.std.proofs.lemmas.List.Elements.{All-nil, All-cons}

pub all_of_one : (P : List ℕ × ℕ → Type 0) (drives : List (List ℕ × ℕ)) (media : List ℕ) → drives ≡ (media, 1) ∷ [] → P (media, 1) → All P drives
all_of_one P drives media is one = subst (All P) (sym is) (All-cons P (media, 1) [] one (All-nil P))
