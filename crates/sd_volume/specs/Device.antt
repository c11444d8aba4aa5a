-- What a call that makes several calls of a device leaves of it, whatever device it is.
use Rattle.std.specs.Prelude.{◌≡◌, ◌≢◌, ℕ, ◌+◌, ◌≤◌, List, ◌++◌, length, take, Option, Some}
use Rattle.sd_driver.specs.Shelf.{Shelf, SameShelf, StillLasts, Changes, BeginsWith}
use Rattle.sd_base.specs.Count.{Rose}
use Rattle.sd_driver.specs.Meaning.{Meaning, IsHonest}

-- No call changes whether the device is honest, and its moment doesn't fall. If a fault of the device is answered,
-- its failures rose or are at their greatest; else they are as they were. If it is answered that the device has no
-- room, it told so: `told` rose or is at its greatest; else that is as it was.
pub record Counted (fault no_room : Type 0) (old new : Meaning) : Type 0 where
  pub honest : new.honest ≡ old.honest
  pub moment : old.shelf.moment ≤ new.shelf.moment
  pub failures : old.failures ≤ new.failures
  pub failed : fault → Rose old.failures new.failures
  pub no_failure : ¬ fault → new.failures ≡ old.failures
  pub told : no_room → Rose old.told new.told
  pub not_told : ¬ no_room → new.told ≡ old.told

-- No more than so many calls of the device changed a volume. Any call of some device may: so what meets this whatever
-- device it is makes no more calls than so many.
abbrev pub CallsAtMost : ℕ → Meaning → Meaning → Type 0
CallsAtMost count old new = new.shelf.moment ≤ old.shelf.moment + count

-- a call that only reads: what was loaded stays so, what lasted lasts, and an honest device holds what it held
pub record OnlyReads (fault : Type 0) (old new : Meaning) : Type 0 where
  pub counted : Counted fault ⊥ old new
  pub loaded : new.loaded ≡ old.loaded
  pub lasts : StillLasts old.shelf new.shelf
  pub same : IsHonest old → SameShelf old.shelf new.shelf

-- these bytes at the end of the loaded volume, all of which is stable now
abbrev pub Writes : List ℕ → Option (List ℕ) → Shelf → Shelf → Type 0
Writes more = Changes
    (λ held after. after ≡ record { bytes = held.bytes ++ more; stable = length (held.bytes ++ more) })

-- every volume but the loaded one is as it was
abbrev pub OthersStay : Option (List ℕ) → Shelf → Shelf → Type 0
OthersStay loaded old new = (name : List ℕ) → loaded ≢ Some name → new.volume name ≡ old.volume name

-- the loaded volume was cut at a place, and all of what is left is stable
abbrev pub CutsLoaded : ℕ → Option (List ℕ) → Shelf → Shelf → Type 0
CutsLoaded to = Changes
    (λ held after. after ≡ record { bytes = take to held.bytes; stable = length (take to held.bytes) })

-- the bytes of the loaded volume up to a place are as they were, whatever comes after
abbrev pub KeepsLoaded : ℕ → Option (List ℕ) → Shelf → Shelf → Type 0
KeepsLoaded to = Changes (λ held after. BeginsWith after.bytes (take to held.bytes))
