-- What a drive in memory is, as a device.
use Rattle.std.specs.Prelude.{◌≡◌, ◌≤◌, ◌<◌, ◌+◌, ◌⊎◌, ℕ, true, List, length, None, Some, Result, IsErrOf}
use Rattle.sd_driver.specs.Shelf.{Shelf, Held, SameShelf, Appends, stable_bytes}
use Rattle.sd_driver.specs.Meaning.{Meaning, IsHonest}
use Rattle.sd_memdrive.specs.ChangeLog.{shelf_of}
use Rattle.sd_memdrive.specs.declared.store.Store.{Store}
use Rattle.sd_memdrive.specs.declared.drive.MemDrive.{MemDrive}
use Rattle.sd_plan.specs.declared.call.Call.{Call}
use Rattle.sd_plan.specs.declared.call.Call.TheVariants.{Append}
use Rattle.sd_driver.specs.declared.driver.DriverFault.{DriverFault}
use Rattle.sd_driver.specs.declared.driver.DriverFault.TheVariants.{Device, Memory}
use Rattle.sd_plan.specs.Plan.{Follows, due_of, entries_of, failures_of, part_of}
use Rattle.sd_plan.specs.Plan as plans
use Rattle.sd_plan.specs.declared.fail.Fail.{Fail}
use Rattle.sd_plan.specs.Call.{drive_calls}

-- the shelf of a store
abbrev pub store_shelf : Store → Shelf
store_shelf store = shelf_of store.volumes.items store.changes.items

-- the meaning of a drive: it is honest
abbrev pub meaning_of : MemDrive → Meaning
meaning_of drive = record {
  honest = true;
  shelf = store_shelf drive.store;
  loaded = drive.loaded;
  failures = failures_of drive.plan;
  told = drive.told;
}

-- no call was made of the device yet
pub record IsUnused (meaning : Meaning) : Type 0 where
  pub honest : IsHonest meaning
  pub moment : meaning.shelf.moment ≡ 0
  pub now : (name : List ℕ) → meaning.shelf.kept 0 name ≡ stable_bytes (meaning.shelf.volume name)
  pub loaded : meaning.loaded ≡ None
  pub failures : meaning.failures ≡ 0
  pub told : meaning.told ≡ 0

-- the plan that a drive was made with
abbrev pub plan_of : MemDrive → List (Fail Call)
plan_of drive = entries_of drive.plan

-- no call of any kind was counted in its plan yet
abbrev pub NoneCounted : MemDrive → Type 0
NoneCounted drive = plans.NoneCounted drive_calls drive.plan

-- its plan, and what it has counted, are as they were
abbrev pub KeepsPlan : MemDrive → MemDrive → Type 0
KeepsPlan old new = new.plan ≡ old.plan

-- how many bytes each of its volumes has room for
abbrev pub capacity_of : MemDrive → ℕ
capacity_of drive = drive.capacity

-- the loaded volume has room for these bytes
abbrev pub HasRoom : List ℕ → MemDrive → Type 0
HasRoom more drive =
    (name : List ℕ) (held : Held)
    → drive.loaded ≡ Some name
    → (store_shelf drive.store).volume name ≡ Some held
    → length held.bytes + length more ≤ drive.capacity

-- it lacks that room
abbrev pub LacksRoom : List ℕ → MemDrive → Type 0
LacksRoom more drive =
    (name : List ℕ) (held : Held)
    → drive.loaded ≡ Some name
    → (store_shelf drive.store).volume name ≡ Some held
    → drive.capacity < length held.bytes + length more

-- a call of that kind fails at once: the plan has it fail before its work, or no failure can be
-- counted any more
abbrev pub FailsAtOnce : Call → MemDrive → Type 0
FailsAtOnce call drive = plans.FailsAtOnce drive_calls call drive.plan

-- a call counts once in the plan; it answers `Device` exactly if it fails at once, or if an entry is
-- due for it and it is refused neither for its own cause nor because it is out of memory
abbrev pub FollowsPlan : {T : Type 0} → Call → Type 0 → Result T DriverFault → MemDrive → MemDrive → Type 0
FollowsPlan call own_cause result old new =
    Follows drive_calls call (IsErrOf result Device) ⊥ (own_cause ⊎ IsErrOf result Memory) old.plan new.plan

-- What an append leaves whose answer isn't out of memory: what was there if it fails at once, or if the volume lacks
-- the room; else as much of its bytes at the end of the loaded volume as its entry says, all if none is due.
pub record AppendsPart (bytes : List ℕ) (old new : MemDrive) : Type 0 where
  pub at_once : FailsAtOnce Append old → SameShelf (store_shelf old.store) (store_shelf new.store)
  pub no_room : LacksRoom bytes old → SameShelf (store_shelf old.store) (store_shelf new.store)
  pub part : ¬ FailsAtOnce Append old → ¬ LacksRoom bytes old
      → Appends (part_of (due_of drive_calls Append old.plan) bytes) old.loaded (store_shelf old.store) (store_shelf new.store)
