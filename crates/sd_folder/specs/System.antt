-- What a folder of the system is.
use Rattle.std.specs.Prelude.{ℕ, List, [], false, None, string_bytes}
use Rattle.sd_folder.specs.Meaning.{FolderMeaning, IsHonest, Stands}
use Rattle.sd_folder.specs.declared.system.SystemFolder.{SystemFolder}

-- what the system does with a file can't be known, so nothing is said of one
abbrev pub unknown_folder : FolderMeaning
unknown_folder = record { honest = false; file = λ _. None; moment = 0; kept = λ _ _. [] }

-- it isn't honest
pub unknown_stands : IsHonest unknown_folder → Stands unknown_folder
unknown_stands h = cc

-- the path of a folder
abbrev pub path_of : {R F D : Type 0} → SystemFolder R F D → List ℕ
path_of folder = string_bytes folder.path
