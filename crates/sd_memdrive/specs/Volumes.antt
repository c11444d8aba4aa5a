-- The volumes of a drive in memory, in the order in which they were made.
use Rattle.std.specs.Prelude.{◌≡◌, ◌≢◌, ℕ, zero, suc, Bool, true, ◌&&◌, if◌then◌else◌, is_none, List, [], ◌∷◌, length, Option, Some, None, count_by, nat_lt}
use Rattle.std.specs.Str.{bytes_eq}
use Rattle.sd_driver.specs.Shelf.{Held}

-- a volume with its name
pub record Volume : Type 0 where
  pub name : List ℕ
  pub held : Held

-- what lies under a name: the first volume of that name
abbrev pub volume_of : List Volume → List ℕ → Option Held
volume_of [] name = None
volume_of (v ∷ vs) name = if bytes_eq v.name name then Some v.held else volume_of vs name

-- the first volume of that name is at this place
abbrev pub StandsFirstAt : List ℕ → List Volume → ℕ → Type 0
StandsFirstAt name [] place = ⊥
StandsFirstAt name (v ∷ vs) zero = v.name ≡ name
StandsFirstAt name (v ∷ vs) (suc place) = (v.name ≢ name) × StandsFirstAt name vs place

-- the names that are there are those that were
abbrev pub SameNames : List Volume → List Volume → Type 0
SameNames old new = (name : List ℕ) → volume_of old name ≢ None → volume_of new name ≢ None

-- no two volumes have one name
abbrev pub names_differ : List Volume → Bool
names_differ [] = true
names_differ (v ∷ vs) = is_none (volume_of vs v.name) && names_differ vs

-- how many volumes have bytes that are not stable
abbrev pub unsynced : List Volume → ℕ
unsynced = count_by (λ v. nat_lt v.held.stable (length v.held.bytes))
