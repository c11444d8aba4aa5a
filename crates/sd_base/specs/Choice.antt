-- The first of the candidates in a list, by an order and then by their place.
use Rattle.std.specs.Prelude.{◌≡◌, ℕ, ◌<◌, List, Some, slice_get}

-- At this place is the first candidate: it precedes each candidate before it, and none after it precedes it.
pub record FirstOf {A : Type 0} (IsCandidate : A → Type 0) (Precedes : A → A → Type 0) (xs : List A) (place : ℕ) : Type 0 where
  pub first : A
  pub there : slice_get xs place ≡ Some first
  pub is_candidate : IsCandidate first
  pub before : (other : ℕ) (x : A) → other < place → slice_get xs other ≡ Some x → IsCandidate x → Precedes first x
  pub behind : (other : ℕ) (x : A) → place < other → slice_get xs other ≡ Some x → IsCandidate x → Precedes x first → ⊥

-- no element is a candidate
abbrev pub NoneOf : {A : Type 0} → (A → Type 0) → List A → Type 0
NoneOf IsCandidate xs = (place : ℕ) (x : _) → slice_get xs place ≡ Some x → IsCandidate x → ⊥
