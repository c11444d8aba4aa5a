-- What all devices have.
use Rattle.std.proofs.Common.{◌≡◌, ◌∙◌, ℕ, sym, subst, inl, inr, Some, List, slice_get}
use Rattle.std.specs.Prelude.{All}
use Rattle.std.proofs.lemmas.List.Elements.{All-get_or}
use Rattle.std.proofs.lemmas.Option.{slice_get_cases}
use Rattle.sd_theorem.proofs.Returns.{none_some, some_one}

-- what holds of each holds of the one at a place
pub at_all : {A : Type 0} (P : A → Type 0) (xs : List A) (at : ℕ) (x : A) → All P xs → slice_get xs at ≡ Some x → P x
at_all P xs at x all there = elim (slice_get_cases xs at).1 [
  | inl f ↦ subst P (some_one (sym f.2 ∙ there)) (subst P f.3 (All-get_or P xs at f.0 f.1 all))
  | inr n ↦ absurd (none_some (sym n.1 ∙ there))
]
