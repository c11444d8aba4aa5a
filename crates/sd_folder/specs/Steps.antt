-- What the calls of an honest folder do.
use Rattle.std.specs.Prelude.{◌≡◌, ◌≢◌, ℕ, ◌+◌, ◌-◌, ◌≤◌, ◌⊎◌, min, Bool, true, false, List, [], ◌++◌, length, take, drop, Some, None}
use Rattle.sd_folder.specs.Meaning.{FileState, FolderMeaning}

-- a new empty file of a name that the folder lacked
pub record Makes (name : List ℕ) (old new : FolderMeaning) : Type 0 where
  pub absent : old.file name ≡ None
  -- whether the disk has the name at once
  pub lasts : Bool
  pub made : new.file name
      ≡ Some (record { bytes = []; written = 0; named = lasts; torn = false })
  pub others : (other : List ℕ) → other ≢ name → new.file other ≡ old.file other

-- nothing changes, but that a name which the folder lacked may be there now
pub record MayMake (name : List ℕ) (old new : FolderMeaning) : Type 0 where
  pub there : (state : FileState) → old.file name ≡ Some state → new.file name ≡ Some state
  pub untorn : (state : FileState)
      → old.file name ≡ None → new.file name ≡ Some state → state.torn ≡ false
  pub others : (other : List ℕ) → other ≢ name → new.file other ≡ old.file other

-- the file takes this step, and all others stay
pub record Takes (step : FileState → FileState → Type 0) (name : List ℕ) (old new : FolderMeaning)
    : Type 0 where
  pub here : (state : FileState) → old.file name ≡ Some state
      → (after : FileState) × step state after × (new.file name ≡ Some after)
  pub others : (other : List ℕ) → other ≢ name → new.file other ≡ old.file other

-- the file ends there
abbrev pub EndsAt : List ℕ → ℕ → FolderMeaning → Type 0
EndsAt name end folder =
    (state : FileState) → folder.file name ≡ Some state → end ≡ length state.bytes

-- the file is there, and ends there
pub record TellsEnd (name : List ℕ) (end : ℕ) (folder : FolderMeaning) : Type 0 where
  pub there : folder.file name ≢ None
  pub ends : EndsAt name end folder

-- Some bytes of the file from a place on lie at the front of the buffer, at least one if there is one and room for
-- it. Of a torn file only those are known that the disk has.
pub record Reads (name : List ℕ) (at room count : ℕ) (buffer : List ℕ) (folder : FolderMeaning)
    : Type 0 where
  pub there : folder.file name ≢ None
  pub within : (state : FileState) → folder.file name ≡ Some state
      → count ≤ length state.bytes - at
  pub some : (state : FileState) → folder.file name ≡ Some state
      → count ≡ 0 → (room ≡ 0) ⊎ (length state.bytes ≤ at)
  pub bytes : (state : FileState) → folder.file name ≡ Some state
      → (state.torn ≡ false) ⊎ (at + count ≤ state.written)
      → take count buffer ≡ take count (drop at state.bytes)

-- these bytes at the end
abbrev pub added : List ℕ → FileState → FileState
added more state = record { bytes = state.bytes ++ more; written = state.written; named = state.named; torn = state.torn }

-- the file has these bytes more
abbrev pub Adds : List ℕ → List ℕ → FolderMeaning → FolderMeaning → Type 0
Adds name more = Takes (λ state after. after ≡ added more state) name

-- some bytes, or none, at the end
abbrev pub MayAdd : List ℕ → FolderMeaning → FolderMeaning → Type 0
MayAdd = Takes (λ state after. (tail : List ℕ) × (after ≡ added tail state))

-- the disk has all bytes, unless a sync failed before
pub record DataSynced (state after : FileState) : Type 0 where
  pub bytes : after.bytes ≡ state.bytes
  pub all : state.torn ≡ false → after.written ≡ length state.bytes
  pub more : state.written ≤ after.written
  pub named : after.named ≡ state.named
  pub torn : after.torn ≡ state.torn

-- the file's bytes are synced
abbrev pub SyncsData : List ℕ → FolderMeaning → FolderMeaning → Type 0
SyncsData = Takes DataSynced

-- the disk may have more of the bytes, and the file may be torn
pub record DataMaySync (state after : FileState) : Type 0 where
  pub bytes : after.bytes ≡ state.bytes
  pub more : state.written ≤ after.written
  pub named : after.named ≡ state.named

-- the file's bytes may be synced
abbrev pub MaySyncData : List ℕ → FolderMeaning → FolderMeaning → Type 0
MaySyncData = Takes DataMaySync

-- the disk has the name
abbrev pub named_too : FileState → FileState
named_too state = record { bytes = state.bytes; written = state.written; named = true; torn = state.torn }

-- the file's name is synced
abbrev pub SyncsName : List ℕ → FolderMeaning → FolderMeaning → Type 0
SyncsName = Takes (λ state after. after ≡ named_too state)

-- the disk may have the name
abbrev pub MaySyncName : List ℕ → FolderMeaning → FolderMeaning → Type 0
MaySyncName = Takes (λ state after. (after ≡ state) ⊎ (after ≡ named_too state))

-- the file ends at a place, or before
abbrev pub cut_at : ℕ → FileState → FileState
cut_at to state = record { bytes = take to state.bytes; written = min to state.written; named = state.named; torn = state.torn }

-- the file is cut
abbrev pub Cuts : List ℕ → ℕ → FolderMeaning → FolderMeaning → Type 0
Cuts name to = Takes (λ state after. after ≡ cut_at to state) name

-- what is past that place may be anything
pub record MayBeCut (to : ℕ) (state after : FileState) : Type 0 where
  pub tail : List ℕ
  pub bytes : after.bytes ≡ take to state.bytes ++ tail
  pub written : min to state.written ≤ after.written
  pub named : after.named ≡ state.named
  pub torn : after.torn ≡ state.torn

-- the file may be cut
abbrev pub MayCut : List ℕ → ℕ → FolderMeaning → FolderMeaning → Type 0
MayCut name to = Takes (MayBeCut to) name

-- no file has the name any more
pub record Removes (name : List ℕ) (old new : FolderMeaning) : Type 0 where
  pub gone : new.file name ≡ None
  pub others : (other : List ℕ) → other ≢ name → new.file other ≡ old.file other

-- the file is as it was, or gone
pub record MayRemove (name : List ℕ) (old new : FolderMeaning) : Type 0 where
  pub here : (new.file name ≡ old.file name) ⊎ (new.file name ≡ None)
  pub others : (other : List ℕ) → other ≢ name → new.file other ≡ old.file other
