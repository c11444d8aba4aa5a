-- The better of two places of a list.
use Rattle.std.specs.Prelude.{◌≡◌, ◌⊎◌, ℕ, List, Option, Some, None, slice_get}

-- Of the best place so far and a new one this is the better: the new one if there was none, or if what
-- is there precedes what is at the other; else the best so far.
abbrev pub IsBetter : {A : Type 0} → (A → A → Type 0) → List A → Option ℕ → ℕ → ℕ → Type 0
IsBetter Precedes xs None place better = better ≡ place
IsBetter Precedes xs (Some best) place better =
    (x : _) × (y : _) × (slice_get xs place ≡ Some x) × (slice_get xs best ≡ Some y)
    × (((better ≡ place) × Precedes x y) ⊎ ((better ≡ best) × (Precedes x y → ⊥)))
