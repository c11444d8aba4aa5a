-- The drives in memory that a script is run over.
use Rattle.std.specs.Prelude.{◌≡◌, ℕ, ◌+◌, Some, List, slice_get}
use Rattle.sd_memdrive.specs.Drive.{IsUnused, capacity_of, meaning_of, plan_of}
use Rattle.sd_memdrive.specs.declared.drive.MemDrive.{MemDrive}
use Rattle.sd_tool.specs.Settings.{ValuesView, capacity_for, plan_for}

-- the drive is new, and is what the settings say of the drive of this number
pub record IsSetUp (v : ValuesView) (drive : ℕ) (d : MemDrive) : Type 0 where
  pub unused : IsUnused (meaning_of d)
  pub capacity : capacity_of d ≡ capacity_for v drive
  pub plan : plan_of d ≡ plan_for v drive

-- the drives 1, 2 and on are as the settings say
abbrev pub AreSetUp : ValuesView → List MemDrive → Type 0
AreSetUp v ds = (at : ℕ) (d : MemDrive) → slice_get ds at ≡ Some d → IsSetUp v (at + 1) d
