-- The volumes of which a sync failed.
use Rattle.std.specs.Prelude.{◌≡◌, ◌≢◌, ℕ, ◌+◌, ◌≤◌, true, false, if◌then◌else◌, List, [], ◌∷◌, Option, Some, None}
use Rattle.std.specs.Str.{bytes_eq}
use Rattle.sd_folder.specs.Meaning.{FileState, FolderMeaning}
use Rattle.sd_filedrive.specs.declared.files.Torn.{Torn}

-- of a name that later notes lack this note may tell
abbrev pub noted_first : Torn → List ℕ → Option ℕ → Option ℕ
noted_first t name (Some synced) = Some synced
noted_first t name None = if bytes_eq t.name name then Some t.synced else None

-- how many bytes of a volume may be read if a sync of it failed: what was noted last of its name
abbrev pub torn_at : List Torn → List ℕ → Option ℕ
torn_at [] name = None
torn_at (t ∷ rest) name = noted_first t name (torn_at rest name)

-- a torn file is noted, with a length that the disk has
pub record IsNoted (torn : List Torn) (name : List ℕ) (state : FileState) : Type 0 where
  pub there : torn_at torn name ≢ None
  pub within : (synced : ℕ) → torn_at torn name ≡ Some synced → synced ≤ state.written

-- each torn file is noted
abbrev pub Covers : List Torn → FolderMeaning → Type 0
Covers torn folder = (name : List ℕ) (state : FileState)
    → folder.file name ≡ Some state → state.torn ≡ true → IsNoted torn name state

-- a read of so many bytes of the file, from a place on, gives what was written
abbrev pub IsSound : List ℕ → ℕ → ℕ → FolderMeaning → Type 0
IsSound name at room folder = (state : FileState)
    → folder.file name ≡ Some state → state.torn ≡ true → at + room ≤ state.written

-- no sync of the file failed
abbrev pub IsWhole : List ℕ → FolderMeaning → Type 0
IsWhole name folder = (state : FileState) → folder.file name ≡ Some state → state.torn ≡ false
