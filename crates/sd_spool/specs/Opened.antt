-- What a spool knows of its file.
use Rattle.std.specs.Prelude.{◌≡◌, ◌≢◌, ℕ, ◌≤◌, Bool, true, false, List, [], length, take, drop, Option, Some, None}
use Rattle.sd_folder.specs.Meaning.{FileState, FolderMeaning, IsHonest, SameFiles}

-- the bytes of a file, none if it isn't there
abbrev pub bytes_of : Option FileState → List ℕ
bytes_of None = []
bytes_of (Some state) = state.bytes

-- the bytes of the file of a name
abbrev pub file_bytes : FolderMeaning → List ℕ → List ℕ
file_bytes folder name = bytes_of (folder.file name)

-- the bytes of a spool: the first so many of its file
abbrev pub spool_bytes : FolderMeaning → List ℕ → ℕ → List ℕ
spool_bytes folder name end = take end (file_bytes folder name)

-- the file has these bytes of the spool, and no more
abbrev pub HasNoMore : FolderMeaning → List ℕ → ℕ → Type 0
HasNoMore folder name end = file_bytes folder name ≡ spool_bytes folder name end

-- no sync of the file failed
abbrev pub IsWhole : List ℕ → FolderMeaning → Type 0
IsWhole name folder =
    (state : FileState) → folder.file name ≡ Some state → state.torn ≡ false

-- the file has so many bytes, and no more if it is even; no sync of it failed
pub record Fits (is_even : Bool) (end : ℕ) (state : FileState) : Type 0 where
  pub within : end ≤ length state.bytes
  pub ends : is_even ≡ true → end ≡ length state.bytes
  pub whole : state.torn ≡ false

-- the file is there, and as this
pub record Holds (name : List ℕ) (is_even : Bool) (end : ℕ) (folder : FolderMeaning) : Type 0 where
  pub there : folder.file name ≢ None
  pub fits : (state : FileState) → folder.file name ≡ Some state → Fits is_even end state

-- every other file is as it was
abbrev pub OthersStay : List ℕ → FolderMeaning → FolderMeaning → Type 0
OthersStay name old new = (other : List ℕ) → other ≢ name → new.file other ≡ old.file other

-- the files are as they were
pub record Looks (old new : FolderMeaning) : Type 0 where
  pub honest : new.honest ≡ old.honest
  pub same : IsHonest old → SameFiles old new

-- a read has come so far: the first `count` bytes of the buffer are the file's from `at` on
pub record FillsSoFar (name : List ℕ) (at room count : ℕ) (buffer : List ℕ) (old new : FolderMeaning)
    : Type 0 where
  pub looks : Looks old new
  pub has : length buffer ≡ room
  pub within : count ≤ room
  pub bytes : IsHonest old → take count buffer ≡ take count (drop at (file_bytes old name))
