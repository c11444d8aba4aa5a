-- What a device is to the daemon, and what every device tells by its answers.
use Rattle.std.specs.Prelude.{◌≡◌, ℕ, Bool, ◌+◌, ◌-◌, ◌^◌, min, List, length, take, drop, Option, Some, Result, Ok, Err, IsTrue, IsErrOf}
use Rattle.sd_base.specs.Count.{CountsUp}
use Rattle.sd_driver.specs.declared.driver.DriverFault.{DriverFault}
use Rattle.sd_driver.specs.declared.driver.DriverFault.TheVariants.{NotThere, Exists, NoRoom, Device, Memory}
use Rattle.sd_driver.specs.Shelf.{Shelf, Held, SameShelf}

-- all that clauses say of a device
pub record Meaning : Type 0 where
  -- it keeps what it was given, and tells what it holds
  pub honest : Bool
  pub shelf : Shelf
  -- the name of the loaded volume
  pub loaded : Option (List ℕ)
  pub failures : ℕ
  -- how many appends it answered with `NoRoom`
  pub told : ℕ

-- the device keeps what it was given, and tells what it holds
abbrev pub IsHonest : Meaning → Type 0
IsHonest meaning = IsTrue meaning.honest

-- the count of `NoRoom` answers after this answer; it stays at the greatest value of 64 bits
abbrev pub told_after : {T : Type 0} → Result T DriverFault → ℕ → ℕ
told_after (Ok value) told = told
told_after (Err NotThere) told = told
told_after (Err Exists) told = told
told_after (Err NoRoom) told = min (told + 1) (2 ^ 64 - 1)
told_after (Err Device) told = told
told_after (Err Memory) told = told

-- no call changes whether the device is honest; no count falls; a fault of the device is answered exactly
-- if a failure was counted, or if the count can't rise any more
pub record CountsFailures {T : Type 0} (result : Result T DriverFault) (old new : Meaning) : Type 0 where
  pub honest : new.honest ≡ old.honest
  pub failures : CountsUp (IsErrOf result Device) old.failures new.failures
  pub told : new.told ≡ told_after result old.told

-- honesty and counts are as they were
pub record SameCounts (old new : Meaning) : Type 0 where
  pub honest : new.honest ≡ old.honest
  pub failures : new.failures ≡ old.failures
  pub told : new.told ≡ old.told

-- all is as it was
pub record Unchanged (old new : Meaning) : Type 0 where
  pub counts : SameCounts old new
  pub shelf : SameShelf old.shelf new.shelf
  pub loaded : new.loaded ≡ old.loaded

-- the volume is there, and has this length
pub record TellsLength (name : List ℕ) (count : ℕ) (shelf : Shelf) : Type 0 where
  pub held : Held
  pub there : shelf.volume name ≡ Some held
  pub length_is : count ≡ length held.bytes

-- the volume is there, and the first `count` bytes of the buffer are its bytes from `at` on: as many as the
-- buffer has room for, fewer only at the volume's end
pub record TellsBytes (name : List ℕ) (at room count : ℕ) (buffer : List ℕ) (shelf : Shelf) : Type 0 where
  pub held : Held
  pub there : shelf.volume name ≡ Some held
  pub count_is : count ≡ min room (length held.bytes - at)
  pub bytes : take count buffer ≡ take count (drop at held.bytes)
