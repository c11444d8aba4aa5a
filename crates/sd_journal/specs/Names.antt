-- The names of the volumes that a journal's entries lie on: each name once, at a place of its own.
use Rattle.std.specs.Prelude.{◌≡◌, ◌≢◌, ℕ, ◌+◌, ◌<◌, ◌≤◌, ◌^◌, List, [], ◌∷◌, ◌++◌, length, get_or, AllPairs, Option, Some, if◌then◌else◌}
use Rattle.std.specs.List.{list_any}
use Rattle.std.specs.Str.{bytes_eq}

-- all that clauses say of the names
pub record NamesView : Type 0 where
  -- each at its place
  pub names : List (List ℕ)
  -- for how many more there is room
  pub room : ℕ

-- the name at a place
abbrev pub name_at : List (List ℕ) → ℕ → List ℕ
name_at names place = get_or names place []

-- the names with this one: after them, if it isn't one of them
abbrev pub with_name : List ℕ → List (List ℕ) → List (List ℕ)
with_name name names = if list_any (λ n. bytes_eq n name) names then names else names ++ name ∷ []

-- What was found is the one place of the name among these, and nothing if it is none of them.
pub record IsPlaceOf (names : List (List ℕ)) (name : List ℕ) (found : Option ℕ) : Type 0 where
  -- the name is where it was found
  pub there : (place : ℕ) → found ≡ Some place → (place < length names) × (name_at names place ≡ name)
  -- and it was found where it is
  pub only : (place : ℕ) → place < length names → name_at names place ≡ name → found ≡ Some place

-- what the names keep: no two of them are one, and for so many more there is memory, and a place that 32 bits hold
pub record AreKept (names : List (List ℕ)) (count capacity room : ℕ) : Type 0 where
  pub different : AllPairs (λ a b. a ≢ b) names
  pub memory : count + room ≤ capacity
  pub places : count + room < 2 ^ 32
