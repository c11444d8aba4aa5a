-- What a device knows of its folder.
use Rattle.std.specs.Prelude.{◌≡◌, ◌≢◌, ℕ, ◌+◌, ◌-◌, ◌≤◌, ◌⊎◌, min, true, false, List, length, take, drop, Some, None}
use Rattle.sd_folder.specs.Meaning.{FileState, FolderMeaning, IsHonest, Goes, SameFiles}
use Rattle.sd_folder.specs.Steps.{Takes, EndsAt}
use Rattle.sd_filedrive.specs.declared.files.Loaded.{Loaded}
use Rattle.sd_filedrive.specs.Torn.{IsWhole}

-- this file is open, under its name
pub record IsOpen (under name : List ℕ) (folder : FolderMeaning) : Type 0 where
  pub same : under ≡ name
  pub there : folder.file name ≢ None

-- what is noted of the loaded volume is right
pub record Knows {H : Type 0} (under : List ℕ) (loaded : Loaded H) (folder : FolderMeaning) : Type 0 where
  pub same : under ≡ loaded.name
  pub there : folder.file loaded.name ≢ None
  pub end : (end : ℕ) → loaded.end ≡ Some end → EndsAt loaded.name end folder
  pub named : loaded.is_named ≡ true → (state : FileState)
      → folder.file loaded.name ≡ Some state → state.named ≡ true
  pub synced : (state : FileState)
      → folder.file loaded.name ≡ Some state → loaded.synced ≤ state.written
  pub whole : loaded.is_torn ≡ false → IsWhole loaded.name folder

-- the files are as they were
pub record Looks (old new : FolderMeaning) : Type 0 where
  pub goes : Goes old new
  pub same : IsHonest old → SameFiles old new

-- the first `count` bytes of the buffer are the file's from `at` on: as many as there is room for, fewer only at its
-- end
pub record Fills (name : List ℕ) (at room count : ℕ) (buffer : List ℕ) (folder : FolderMeaning)
    : Type 0 where
  pub count_is : (state : FileState)
      → folder.file name ≡ Some state → count ≡ min room (length state.bytes - at)
  pub bytes : (state : FileState)
      → folder.file name ≡ Some state → take count buffer ≡ take count (drop at state.bytes)

-- a read has come so far: `count` bytes lie at the front of the buffer
pub record FillsSoFar (name : List ℕ) (at room count : ℕ) (buffer : List ℕ) (old new : FolderMeaning)
    : Type 0 where
  pub looks : Looks old new
  pub has : length buffer ≡ room
  pub within : count ≤ room
  pub there : IsHonest old → (state : FileState)
      → old.file name ≡ Some state → (count ≡ 0) ⊎ (at + count ≤ length state.bytes)
  pub bytes : IsHonest old → (state : FileState)
      → old.file name ≡ Some state → take count buffer ≡ take count (drop at state.bytes)

-- the disk has all of the file
abbrev pub SyncsAll : List ℕ → FolderMeaning → FolderMeaning → Type 0
SyncsAll = Takes (λ state after. after ≡ record {
  bytes = state.bytes;
  written = length state.bytes;
  named = true;
  torn = false;
})

-- the disk may have more of the file
pub record MayLast (state after : FileState) : Type 0 where
  pub bytes : after.bytes ≡ state.bytes
  pub written : state.written ≤ after.written
  pub named : state.named ≡ true → after.named ≡ true

-- the file may be synced
abbrev pub MaySyncAll : List ℕ → FolderMeaning → FolderMeaning → Type 0
MaySyncAll = Takes MayLast
