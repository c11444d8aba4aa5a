-- What a folder of files is, as a device.
use Rattle.std.specs.Prelude.{ℕ, List, [], Option, None, if◌then◌else◌}
use Rattle.sd_driver.specs.Shelf.{Shelf}
use Rattle.sd_driver.specs.Meaning.{Meaning}
use Rattle.sd_folder.specs.Meaning.{FolderMeaning, shelf_of}
use Rattle.sd_folder.specs.System.{unknown_folder, path_of}
use Rattle.sd_folder.specs.declared.folder.Folder.{Ghosts}
use Rattle.sd_folder.specs.declared.system.SystemFolder.{SystemFolder}
use Rattle.sd_folder.specs.declared.system.SystemFile.{SystemFile}
use Rattle.sd_filedrive.specs.Parts.{loaded_name}
use Rattle.sd_filedrive.specs.declared.drive.FolderDrive.{FolderDrive}

-- nothing is said of what is on the shelf
abbrev pub unknown_shelf : Shelf
unknown_shelf = record { volume = λ _. None; moment = 0; kept = λ _ _. [] }

-- the shelf of a device, which is known if its folder is honest
abbrev pub drive_shelf : FolderMeaning → Shelf
drive_shelf folder = if folder.honest then shelf_of folder else unknown_shelf

-- the meaning of a device over a folder, with this loaded volume and these counts: it is honest exactly if the folder is
abbrev pub drive_meaning : FolderMeaning → Option (List ℕ) → ℕ → ℕ → Meaning
drive_meaning folder loaded failures told = record { honest = folder.honest; shelf = drive_shelf folder; loaded = loaded; failures = failures; told = told }

-- the meaning of a drive, by that of its folder
abbrev pub meaning_of : {F H : Type 0} {g : Ghosts F H} → FolderDrive F H g → Meaning
meaning_of {g = g} drive =
    drive_meaning (g.meaning drive.volumes.folder) (loaded_name drive.volumes.loaded) drive.tally.failures drive.tally.told

-- the meaning of a drive over a folder of the system, of which no call was made yet
abbrev pub unused : Meaning
unused = drive_meaning unknown_folder None 0 0

-- a meaning, but with this count of failures
abbrev pub counted_from : ℕ → Meaning → Meaning
counted_from count meaning = record { honest = meaning.honest; shelf = meaning.shelf; loaded = meaning.loaded; failures = count; told = meaning.told }

-- the path of the folder of the system that a drive has its volumes in
abbrev pub folder_of : {R F D : Type 0} {g : Ghosts (SystemFolder R F D) (SystemFile F)}
    → FolderDrive (SystemFolder R F D) (SystemFile F) g → List ℕ
folder_of drive = path_of drive.volumes.folder
