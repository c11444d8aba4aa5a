-- Worlds over folders of files: what both theorems ask of these folders.
use Rattle.std.specs.Prelude.{◌≡◌, ℕ, Some, Vec, slice_get}
use Rattle.sd_folder.specs.Meaning.{IsHonest}
use Rattle.sd_folder.specs.declared.folder.Folder.{Ghosts}
use Rattle.sd_filedrive.specs.Drive.{meaning_of as drive_meaning}
use Rattle.sd_filedrive.specs.declared.drive.FolderDrive.{FolderDrive}
use Rattle.sd_lane.specs.Queue.{LanesView}
use Rattle.sd_spool.specs.FileSpool.{meaning_of as spool_meaning}
use Rattle.sd_spool.specs.declared.file.FolderSpool.{FolderSpool}
use Rattle.sd_theorem.specs.Start.{Start, StartsHonest}

-- every folder is honest when the world is made: that of each device, and that of each lane's spool
pub record FoldersAreHonest {F H Q Z : Type 0} {g : Ghosts F H} (start : Start (FolderDrive F H g) Q (FolderSpool F H g) Z) : Type 0 where
  pub devices : (at : ℕ) (device : FolderDrive F H g) → slice_get start.devices at ≡ Some device → IsHonest (g.meaning device.volumes.folder)
  pub spools : (at place : ℕ) (stores : Vec (FolderSpool F H g) Z) (spool : FolderSpool F H g)
      → slice_get start.spools at ≡ Some stores → slice_get stores.items place ≡ Some spool → IsHonest (g.meaning spool.file.folder)

-- If every folder is honest, so is all that the world is made of: both theorems ask no more of devices and stores.
abbrev pub OverFolders : {F H : Type 0} → Ghosts F H → (Q Z : Type 0) → Type 0
OverFolders {F} {H} g Q Z = (queue : Q → LanesView) (start : Start (FolderDrive F H g) Q (FolderSpool F H g) Z)
    → FoldersAreHonest start
    → StartsHonest (record { device = λ d. drive_meaning d; queue = queue; store = λ s. spool_meaning s }) start
