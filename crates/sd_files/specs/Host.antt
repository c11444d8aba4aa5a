-- What the system is, as a host.
use Rattle.std.specs.Prelude.{ℕ, List, Option, None}
use Rattle.sd_driver.specs.Meaning.{Meaning}
use Rattle.sd_filedrive.specs.Drive.{folder_of, unused}
use Rattle.sd_filedrive.specs.declared.drive.FolderDrive.{FolderDrive}
use Rattle.sd_folder.specs.declared.folder.Folder.{Ghosts}
use Rattle.sd_folder.specs.declared.system.SystemFile.{SystemFile}
use Rattle.sd_folder.specs.declared.system.SystemFolder.{SystemFolder}
use Rattle.sd_files.specs.declared.watched.ShownProgress.{ShownProgress}
use Rattle.sd_files.specs.declared.watched.WatchedDevice.{WatchedDevice}

-- nothing is said of what a file of the system holds
abbrev pub unknown_text : List ℕ → Option (List ℕ)
unknown_text path = None

-- the device of a folder of the system, as it is made: it is not claimed to be honest
abbrev pub unused_device : List ℕ → ShownProgress → Meaning
unused_device folder progress = unused

-- the path of the folder that the device inside has its volumes in
abbrev pub folder_inside : {R F D S : Type 0} {g : Ghosts (SystemFolder R F D) (SystemFile F)}
    → WatchedDevice (FolderDrive (SystemFolder R F D) (SystemFile F) g) S → List ℕ
folder_inside watched = folder_of watched.device

-- whether its reading is told of
abbrev pub told_of : {D R : Type 0} → WatchedDevice D R → ShownProgress
told_of watched = watched.progress
