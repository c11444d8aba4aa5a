-- What a `restart` line comes to.
use Rattle.std.specs.Prelude.{◌≡◌, ◌≢◌, ◌≤◌, ◌⊎◌, ℕ, ◌+◌, ◌-◌, nat_lt, Bool, true, false, if◌then◌else◌, Option, None, Some, List, length, slice_get}
use Rattle.sd_base.specs.declared.refusal.Refusal.{Refusal}
use Rattle.sd_base.specs.declared.refusal.Refusal.TheVariants.{DriveOffline, Memory, NoSuchDrive}
use Rattle.sd_core.specs.View.{devices_of}
use Rattle.sd_driver.specs.Meaning.{Meaning}
use Rattle.sd_script.specs.declared.line.Tail.{Tail}
use Rattle.sd_tool.specs.Making.{StartsAs}
use Rattle.sd_tool.specs.Settings.{ValuesView, capacity_for, drive_count}
use Rattle.sd_tool.specs.ScriptStage.{StageView}
use Rattle.sd_tool.specs.Tail.{PutsTail}
use Rattle.sd_tool.specs.declared.restart.Restart.{Restart}

-- a drive was retired
abbrev pub offline : Bool → Option Refusal
offline true = Some DriveOffline
offline false = None

-- why there is no new world of so many drives: the drive of the tail isn't there; or one was retired
abbrev pub unfit : ℕ → Bool → Option Tail → Option Refusal
unfit count retired None = offline retired
unfit count retired (Some tail) = if nat_lt count tail.drive then Some NoSuchDrive else offline retired

-- a world of these settings over these devices, of their time, of which no drive was retired
pub record BeginsAs {D : Type 0} (meaning : D → Meaning) (v : ValuesView) (devices : List D) (s : StageView D) : Type 0 where
  pub values : s.values ≡ v
  pub retired : s.retired ≡ false
  pub starts : StartsAs meaning v v.time devices s.world

-- the drive of the tail is one of so many
abbrev pub IsThere : ℕ → Option Tail → Type 0
IsThere count None = Unit {0}
IsThere count (Some tail) = tail.drive ≤ count

-- the bytes of the tail were put on the device of its drive, and all other devices are as they were
pub record PutsOn {D : Type 0} (meaning : D → Meaning) (room : ℕ) (tail : Tail) (refused : Option Refusal) (old new : List D) : Type 0 where
  pub length_is : length new ≡ length old
  pub before : D
  pub after : D
  pub stood : slice_get old (tail.drive - 1) ≡ Some before
  pub stands : slice_get new (tail.drive - 1) ≡ Some after
  pub puts : PutsTail room tail refused (meaning before) (meaning after)
  pub others : (at : ℕ) → at + 1 ≢ tail.drive → slice_get new at ≡ slice_get old at

-- The devices of drives with so much room a volume are handed on: as they are if there is no tail, and nothing is
-- refused then; and else with the tail's bytes.
abbrev pub HandsOn : {D : Type 0} → (D → Meaning) → (ℕ → ℕ) → Option Tail → Option Refusal → List D → List D → Type 0
HandsOn meaning room None refused old new = (new ≡ old) × (refused ≡ None)
HandsOn meaning room (Some tail) refused old new = PutsOn meaning (room tail.drive) tail refused old new

-- a new world of the same settings, of that time, over the devices of the old one, and this was refused of the tail
pub record StartsAnew {D : Type 0} (meaning : D → Meaning) (tail : Option Tail) (refused : Option Refusal) (old : StageView D) (time : ℕ) (new : StageView D) : Type 0 where
  pub values : new.values ≡ old.values
  pub retired : new.retired ≡ false
  pub devices : List D
  pub handed_on : HandsOn meaning (capacity_for old.values) tail refused (devices_of old.world.bays) devices
  pub starts : StartsAs meaning old.values time devices new.world

-- if this forbids it, the old world stays; and else a new one starts, if memory lasts
abbrev pub RestartsBy : {D : Type 0} → (D → Meaning) → Option Refusal → Option Tail → StageView D → ℕ → StageView D → Option Refusal → Type 0
RestartsBy meaning (Some why) tail old time new refused = (new ≡ old) × (refused ≡ Some why)
RestartsBy meaning None tail old time new refused = ((new ≡ old) × (refused ≡ Some Memory)) ⊎ StartsAnew meaning tail refused old time new

-- What is there after a `restart` line. The old world stays if there can't be a new one, and the line is refused for
-- that; it may stay, too, if out of memory. Else a new one of that time starts, also if its tail is refused.
abbrev pub RestartsAs : {D : Type 0} → (D → Meaning) → StageView D → Restart → StageView D → Option Refusal → Type 0
RestartsAs meaning old restart new refused =
    RestartsBy meaning (unfit (drive_count old.values) old.retired restart.tail) restart.tail old restart.time new refused
