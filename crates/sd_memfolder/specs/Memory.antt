-- What a folder in memory is, with its plan and its room.
use Rattle.std.specs.Prelude.{ℕ, List}
use Rattle.sd_plan.specs.Plan.{entries_of}
use Rattle.sd_plan.specs.Plan as plans
use Rattle.sd_plan.specs.declared.fail.Fail.{Fail}
use Rattle.sd_folder.specs.Meaning.{FolderMeaning, IsHonest, Stands}
use Rattle.sd_memfolder.specs.Call.{folder_calls}
use Rattle.sd_memfolder.specs.Folder.{files_folder, left_now, within_of}
use Rattle.sd_memfolder.specs.declared.call.Call.{Call}
use Rattle.sd_memfolder.specs.declared.folder.MemoryFolder.{MemoryFolder}

-- the meaning of a folder in memory: it is honest
abbrev pub meaning_of : MemoryFolder → FolderMeaning
meaning_of folder = files_folder folder.files

-- the plan that a folder was made with
abbrev pub plan_of : MemoryFolder → List (Fail Call)
plan_of folder = entries_of folder.plan

-- no call of any kind was counted in its plan yet
abbrev pub NoneCounted : MemoryFolder → Type 0
NoneCounted folder = plans.NoneCounted folder_calls folder.plan

-- how many bytes each of its files has room for
abbrev pub capacity_of : MemoryFolder → ℕ
capacity_of folder = folder.capacity

-- what a stop leaves is what the disk has, and that is no more than was written
pub memory_stands : (folder : MemoryFolder) → IsHonest (meaning_of folder) → Stands (meaning_of folder)
memory_stands folder h = record {
  now = left_now folder.files.files.items folder.files.past.items;
  within = λ name state is. within_of folder.files.files.items name state folder.files.within is;
}
