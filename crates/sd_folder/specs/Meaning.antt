-- What a folder is to the daemon: its files by name, and what a stop leaves of each.
use Rattle.std.specs.Prelude.{◌≡◌, ℕ, ◌≤◌, Bool, false, length, if◌then◌else◌, List, Option, Some, option_map, IsTrue}
use Rattle.sd_driver.specs.Shelf.{Shelf, Held, Passes, stable_bytes}

-- a file
pub record FileState : Type 0 where
  pub bytes : List ℕ
  -- how many of these, from the front, the disk has
  pub written : ℕ
  -- the disk has the name
  pub named : Bool
  -- a sync of its bytes failed
  pub torn : Bool

-- all that clauses say of a folder
pub record FolderMeaning : Type 0 where
  -- it does what its calls answer
  pub honest : Bool
  pub file : List ℕ → Option FileState
  -- how many calls had changed a file's bytes, or what a stop leaves of it
  pub moment : ℕ
  -- the bytes of a file that a stop at a moment leaves
  pub kept : ℕ → List ℕ → List ℕ

-- the folder does what its calls answer
abbrev pub IsHonest : FolderMeaning → Type 0
IsHonest folder = IsTrue folder.honest

-- a file as a volume: a stop leaves what the disk has of it, and nothing if the disk lacks its name
abbrev pub held_of : FileState → Held
held_of state = record { bytes = state.bytes; stable = if state.named then state.written else 0 }

-- a folder as a shelf
abbrev pub shelf_of : FolderMeaning → Shelf
shelf_of folder = record {
  volume = λ name. option_map held_of (folder.file name);
  moment = folder.moment;
  kept = folder.kept;
}

-- no call changes whether the folder is honest; of an honest one it counts exactly if it changed the shelf, and what
-- a stop left earlier is not changed by it
pub record Goes (old new : FolderMeaning) : Type 0 where
  pub honest : new.honest ≡ old.honest
  pub passes : IsHonest old → Passes (shelf_of old) (shelf_of new)

-- every file is as it was
abbrev pub SameFiles : FolderMeaning → FolderMeaning → Type 0
SameFiles old new = (name : List ℕ) → new.file name ≡ old.file name

-- no sync of any file failed
abbrev pub NoneTorn : FolderMeaning → Type 0
NoneTorn folder =
    (name : List ℕ) (state : FileState) → folder.file name ≡ Some state → state.torn ≡ false

-- a stop now leaves what the disk has, and the disk has no more than was written
pub record Stands (folder : FolderMeaning) : Type 0 where
  pub now : (name : List ℕ)
      → folder.kept folder.moment name ≡ stable_bytes ((shelf_of folder).volume name)
  pub within : (name : List ℕ) (state : FileState)
      → folder.file name ≡ Some state → state.written ≤ length state.bytes
