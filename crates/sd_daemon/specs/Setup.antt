-- How the drives of a daemon are made from its configuration.
use Rattle.std.specs.Prelude.{◌≡◌, ◌≤◌, ℕ, ◌+◌, suc, zero, false, Some, List, [], ◌∷◌, ◌++◌, codes, slice_get, unwrap_or}
use Rattle.atomic_table.specs.Seated.{TableId}
use Rattle.sd_conf.specs.declared.conf.Conf.{Conf}
use Rattle.sd_conf.specs.declared.conf.DriveConf.{DriveConf}
use Rattle.sd_drive.specs.declared.limits.Limits.{Limits}
use Rattle.sd_filedrive.specs.Drive.{folder_of, meaning_of}
use Rattle.sd_folder.specs.Place.{folder_named}
use Rattle.sd_folder.specs.declared.folder.Folder.{Ghosts}
use Rattle.sd_folder.specs.declared.system.SystemFile.{SystemFile}
use Rattle.sd_folder.specs.declared.system.SystemFolder.{SystemFolder}
use Rattle.sd_filedrive.specs.declared.drive.FolderDrive.{FolderDrive}
use Rattle.sd_base.specs.Limits.{most_drives}
use Rattle.sd_lines.specs.Unused.{IsNamed, UnusedIs}
use Rattle.sd_spool.specs.FileSpool.{lane_file}

-- the limits of each drive, in the run of this time
abbrev pub limits_in : Conf → ℕ → Limits
limits_in conf time = record { block = conf.block; volume = conf.volume; spool = conf.spool; time = time; host = Some conf.host }

-- nothing is known of what is in the folder of the drive
abbrev pub IsUnknown : {F H : Type 0} {g : Ghosts F H} → UnusedIs (FolderDrive F H g) → Type 0
IsUnknown u = (meaning_of u.device).honest ≡ false

-- A drive of a configuration, for the run of this time, of which nothing was used yet: of its media and with its lanes, with a
-- queue as long as the configuration says. Nothing is known of what is in its folder.
pub record IsUnusedOf {F H : Type 0} {g : Ghosts F H} (conf : Conf) (time : ℕ) (d : DriveConf)
    (u : UnusedIs (FolderDrive F H g)) : Type 0 where
  pub media_is : u.media ≡ d.media
  pub lanes_are : u.lanes ≡ d.lanes
  pub room_is : u.room ≡ conf.queue
  pub limits_are : u.limits ≡ limits_in conf time
  pub unknown : IsUnknown u

-- the drives' lines are named by these tables and times, by their numbers 1, 2 and on, as far as there are such
abbrev pub AreNamed : {D : Type 0} → (ℕ → TableId) → (ℕ → ℕ) → List (UnusedIs D) → Type 0
AreNamed {D} table time us = (at : ℕ) (u : UnusedIs D) → slice_get us at ≡ Some u → at + 1 ≤ most_drives → IsNamed table time (at + 1) u

-- the folder of the spools: the current one if none is named
abbrev pub spool_folder_of : Conf → List ℕ
spool_folder_of conf = unwrap_or conf.spool_folder (codes ".")

-- the device is over the folder of the drive
abbrev pub HasFolder : {R F D : Type 0} {g : Ghosts (SystemFolder R F D) (SystemFile F)}
    → DriveConf → FolderDrive (SystemFolder R F D) (SystemFile F) g → Type 0
HasFolder d device = folder_of device ≡ folder_named d.folder

-- the path of the spool of a lane of a drive, in that folder
abbrev pub lane_path : List ℕ → ℕ → ℕ → List ℕ
lane_path folder drive lane = folder_named folder ++ lane_file drive lane

-- the paths of the spools of the lanes 1, 2 and on of a drive, so many
abbrev pub lane_paths : List ℕ → ℕ → ℕ → List (List ℕ)
lane_paths folder drive zero = []
lane_paths folder drive (suc lanes) = lane_paths folder drive lanes ++ lane_path folder drive (suc lanes) ∷ []
