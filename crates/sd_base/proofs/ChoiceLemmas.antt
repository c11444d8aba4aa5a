-- Candidates of a list, by going through it from the front.
use Rattle.std.proofs.Common.{◌≡◌, inl, inr, ℕ, ◌+◌, ◌≤◌, ◌<◌, List, length, Some, slice_get, sym, ap, subst, ◌∙◌, arith}
use Rattle.std.proofs.lemmas.Bool.{cases_lt}
use Rattle.std.proofs.lemmas.Option.{slice_get_within}
use Rattle.sd_base.specs.Choice.{NoneOf}

-- no element before this place is a candidate
abbrev pub NoneBelow : {A : Type 0} → (A → Type 0) → List A → ℕ → Type 0
NoneBelow P xs n = (place : ℕ) (x : _) → place < n → slice_get xs place ≡ Some x → P x → ⊥

-- equal options hold equal values
pub same_some : {A : Type 0} {x y : A} → Some x ≡ Some y → x ≡ y
same_some e = cc

pub none_more : {A : Type 0} (P : A → Type 0) (xs : List A) (n : ℕ) (x : A)
    → NoneBelow P xs n → slice_get xs n ≡ Some x → (P x → ⊥) → NoneBelow P xs (n + 1)
none_more P xs n x none there never place y below at is = elim (cases_lt place n) [
  | inl lt ↦ none place y lt at is
  | inr le ↦ (let same : place ≡ n = omega arith in
      let e : y ≡ x = same_some (sym at ∙ ap (slice_get xs) same ∙ there) in
      never (subst P e is))
]

pub none_all : {A : Type 0} (P : A → Type 0) (xs : List A) (n : ℕ) → length xs ≤ n → NoneBelow P xs n → NoneOf P xs
none_all P xs n all none place x at is = let in_list = slice_get_within xs place x at in none place x (omega arith) at is
