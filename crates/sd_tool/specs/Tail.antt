-- What the tail of a `restart` line does to a device: zero bytes come after a volume, as a stop may leave them.
use Rattle.std.specs.Prelude.{◌≡◌, ◌≢◌, ◌⊎◌, ◌+◌, ℕ, min, nat_lt, if◌then◌else◌, List, replicate, Option, Some, None, IsSome, Result, Ok, Err, IfErr, IsErrOf}
use Rattle.sd_base.specs.declared.refusal.Refusal.{Refusal}
use Rattle.sd_base.specs.declared.refusal.Refusal.TheVariants as refusal
use Rattle.sd_driver.specs.Meaning.{Meaning, IsHonest}
use Rattle.sd_driver.specs.Shelf.{Shelf, SameShelf, Appends, MayAppend}
use Rattle.sd_driver.specs.declared.driver.DriverFault.{DriverFault}
use Rattle.sd_driver.specs.declared.driver.DriverFault.TheVariants.{NotThere, Exists, NoRoom, Device, Memory}
use Rattle.sd_script.specs.declared.line.Tail.{Tail}
use Rattle.sd_volume.specs.Device.{CallsAtMost, Counted}

-- What is on the shelf of an honest device that was to put these bytes after a volume, by its answer: they come after
-- those of the volume; it isn't there, and nothing changed; it is full, and some of them may be there, or other bytes;
-- it failed, and that may be so too; or it was out of memory, and nothing changed. All other volumes are as they were.
abbrev pub LeavesBehind : {T : Type 0} → List ℕ → List ℕ → Result T DriverFault → Shelf → Shelf → Type 0
LeavesBehind name bytes (Ok value) old new = IsSome (old.volume name) × Appends bytes (Some name) old new
LeavesBehind name bytes (Err NotThere) old new = (old.volume name ≡ None) × SameShelf old new
LeavesBehind name bytes (Err Exists) old new = ⊥
LeavesBehind name bytes (Err NoRoom) old new = IsSome (old.volume name) × MayAppend (Some name) old new
LeavesBehind name bytes (Err Device) old new = MayAppend (Some name) old new
LeavesBehind name bytes (Err Memory) old new = SameShelf old new

-- A device was to put these bytes after a volume. Each answer has its cause, whatever device it is; an honest one is
-- asked to change a volume once at most.
pub record PutsBehind {T : Type 0} (name bytes : List ℕ) (result : Result T DriverFault) (old new : Meaning) : Type 0 where
  pub counted : Counted (IsErrOf result Device) (IsErrOf result NoRoom) old new
  pub fault : IfErr result (λ fault. fault ≢ Exists)
  pub once : IsHonest old → CallsAtMost 1 old new
  pub shelf : IsHonest old → LeavesBehind name bytes result old.shelf new.shelf

-- what is printed for the fault of a device
abbrev pub fault_refusal : DriverFault → Refusal
fault_refusal NotThere = refusal.VolumeNotOnShelf
fault_refusal Exists = refusal.DeviceFault
fault_refusal NoRoom = refusal.NoRoom
fault_refusal Device = refusal.DeviceFault
fault_refusal Memory = refusal.Memory

-- how many zero bytes a device is asked for that has room for so many: all, or one more than it has room for
abbrev pub asked_of : ℕ → ℕ → ℕ
asked_of room count = min count (room + 1)

-- Why a tail of so many bytes is refused after this answer. More than a device has room for are refused also if it
-- takes one more.
abbrev pub tail_refusal : {T : Type 0} → ℕ → ℕ → Result T DriverFault → Option Refusal
tail_refusal room count (Ok value) = if nat_lt (asked_of room count) count then Some refusal.NoRoom else None
tail_refusal room count (Err fault) = Some (fault_refusal fault)

-- The zero bytes of a tail were put after its volume, and this was refused by the device's answer; or there was no
-- memory for them, and the device was not called.
abbrev pub PutsTail : ℕ → Tail → Option Refusal → Meaning → Meaning → Type 0
PutsTail room tail refused old new =
    ((refused ≡ Some refusal.Memory) × (new ≡ old))
    ⊎ ((result : Result (Unit {0}) DriverFault) × (refused ≡ tail_refusal room tail.count result)
    × PutsBehind tail.volume (replicate (asked_of room tail.count) 0) result old new)
