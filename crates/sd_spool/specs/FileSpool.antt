-- What a spool in a file is, as a store.
use Rattle.std.specs.Prelude.{◌≡◌, ℕ, ◌<◌, ◌^◌, List, [], ◌∷◌, ◌++◌, None, codes, string_bytes}
use Rattle.std.specs.Fmt.{decimal}
use Rattle.sd_folder.specs.Meaning.{FolderMeaning}
use Rattle.sd_folder.specs.System.{unknown_folder}
use Rattle.sd_folder.specs.System as systems
use Rattle.sd_folder.specs.declared.folder.Folder.{Ghosts}
use Rattle.sd_folder.specs.declared.system.SystemFolder.{SystemFolder}
use Rattle.sd_folder.specs.declared.system.SystemFile.{SystemFile}
use Rattle.sd_spool.specs.Meaning.{Meaning}
use Rattle.sd_spool.specs.Opened.{HasNoMore, OthersStay, spool_bytes}
use Rattle.sd_spool.specs.declared.file.FolderSpool.{FolderSpool}

-- the name of a spool's file
abbrev pub name_of : {F H : Type 0} {g : Ghosts F H} → FolderSpool F H g → List ℕ
name_of spool = string_bytes spool.file.name

-- how many bytes were written since the last clear, by the answers of the folder
abbrev pub written : {F H : Type 0} {g : Ghosts F H} → FolderSpool F H g → ℕ
written spool = spool.file.end

-- the meaning of a spool, by that of its folder: it is honest exactly if the folder is, and its bytes are the first so
-- many of its file
abbrev pub meaning_of : {F H : Type 0} {g : Ghosts F H} → FolderSpool F H g → Meaning
meaning_of {g = g} spool = record {
  honest = (g.meaning spool.file.folder).honest;
  bytes = spool_bytes (g.meaning spool.file.folder) (string_bytes spool.file.name) spool.file.end;
  failures = spool.failures;
}

-- the meaning of a spool in this folder, of which no call was made yet
abbrev pub unused_in : FolderMeaning → Meaning
unused_in folder = record { honest = folder.honest; bytes = []; failures = 0 }

-- the meaning of a spool in a folder of the system, of which no call was made yet
abbrev pub unused : Meaning
unused = unused_in unknown_folder

-- its file has the spool's bytes, and no more
abbrev pub IsAllOfFile : {F H : Type 0} {g : Ghosts F H} → FolderSpool F H g → Type 0
IsAllOfFile {g = g} spool = HasNoMore (g.meaning spool.file.folder) (name_of spool) spool.file.end

-- every other file of the folder is as it was
abbrev pub KeepsOthers : {F H : Type 0} {g : Ghosts F H} → FolderSpool F H g → FolderSpool F H g → Type 0
KeepsOthers {g = g} old new =
    OthersStay (name_of old) (g.meaning old.file.folder) (g.meaning new.file.folder)

-- the file was not looked at yet
abbrev pub IsUntouched : {F H : Type 0} {g : Ghosts F H} → FolderSpool F H g → Type 0
IsUntouched spool = spool.file.opened ≡ None

-- the path of the file of a spool in a folder of the system
abbrev pub path_of : {R F D : Type 0} {g : Ghosts (SystemFolder R F D) (SystemFile F)}
    → FolderSpool (SystemFolder R F D) (SystemFile F) g → List ℕ
path_of spool = systems.path_of spool.file.folder ++ 47 ∷ string_bytes spool.file.name

-- the name of the file of a lane of a drive
abbrev pub lane_name : ℕ → ℕ → List ℕ
lane_name drive lane = codes "spool~" ++ (decimal drive ++ (codes "~" ++ decimal lane))

-- that name after its folder
abbrev pub lane_file : ℕ → ℕ → List ℕ
lane_file drive lane = codes "/" ++ lane_name drive lane

-- no two lanes have one file: drives are numbered by one digit
abbrev pub LaneFilesDiffer : Type 0
LaneFilesDiffer = (drive lane other_drive other_lane : ℕ)
    → drive < 10 → other_drive < 10 → lane < 2 ^ 64 → other_lane < 2 ^ 64
    → lane_file drive lane ≡ lane_file other_drive other_lane
    → (drive ≡ other_drive) × (lane ≡ other_lane)
