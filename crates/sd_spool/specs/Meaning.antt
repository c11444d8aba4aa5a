-- What a store of a spool is to the daemon, and what every store tells by its answers.
use Rattle.std.specs.Prelude.{◌≡◌, ℕ, Bool, ◌⊎◌, List, [], ◌++◌, Result, IsTrue, IsErrOf}
use Rattle.sd_base.specs.Count.{CountsUp}
use Rattle.sd_spool.specs.declared.store.SpoolStoreFault.{SpoolStoreFault}
use Rattle.sd_spool.specs.declared.store.SpoolStoreFault.TheVariants.{Device}

-- all that clauses say of a store
pub record Meaning : Type 0 where
  -- it keeps what it was given, and tells what it keeps
  pub honest : Bool
  -- what was appended since the last clear
  pub bytes : List ℕ
  pub failures : ℕ

-- the store keeps what it was given, and tells what it keeps
abbrev pub IsHonest : Meaning → Type 0
IsHonest meaning = IsTrue meaning.honest

-- no call changes whether the store is honest; the count of failures doesn't fall; a fault of the device is
-- answered exactly if a failure was counted, or if the count can't rise any more
pub record CountsFailures {T : Type 0} (result : Result T SpoolStoreFault) (old new : Meaning) : Type 0 where
  pub honest : new.honest ≡ old.honest
  pub failures : CountsUp (IsErrOf result Device) old.failures new.failures

-- the bytes are those that were there, and some after them, or none
abbrev pub MayAppend : List ℕ → List ℕ → Type 0
MayAppend old new = (tail : List ℕ) × (new ≡ old ++ tail)

-- the bytes are those that were there, or none is left
abbrev pub MayClear : List ℕ → List ℕ → Type 0
MayClear old new = (new ≡ old) ⊎ (new ≡ [])
