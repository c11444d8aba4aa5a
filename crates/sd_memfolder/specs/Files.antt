-- The files of a folder in memory, in the order in which they were made, and what a stop leaves of them.
use Rattle.std.specs.Prelude.{◌≡◌, ◌≢◌, ℕ, zero, suc, ◌≤◌, ◌-◌, Bool, true, false, if◌then◌else◌, List, [], ◌∷◌, ◌++◌, length, map, take, drop, Option, Some, None, option_map, nat_lt}
use Rattle.std.specs.List.{slice_get, AllByRecursion, AllByRecursion-prop}
use Rattle.std.specs.Coded.{×_prop, →_prop, Unit-prop, le_prop}
use Rattle.std.proofs.Common.{replicate}
use Rattle.std.specs.Str.{bytes_eq}
use Rattle.sd_driver.specs.Shelf.{stable_bytes}
use Rattle.sd_folder.specs.Meaning.{FileState, held_of}
use Rattle.sd_memfolder.specs.declared.left.Left.{Left}

-- a file with its name
pub record NamedFile : Type 0 where
  pub name : List ℕ
  pub state : FileState

-- an empty file, whose name the disk lacks
abbrev pub new_file : List ℕ → NamedFile
new_file name = record {
  name = name;
  state = record { bytes = []; written = 0; named = false; torn = false };
}

-- the file of a name: the first of that name
abbrev pub file_of : List NamedFile → List ℕ → Option FileState
file_of [] name = None
file_of (f ∷ fs) name = if bytes_eq f.name name then Some f.state else file_of fs name

-- the first file of that name is at this place
abbrev pub StandsFirstAt : List ℕ → List NamedFile → ℕ → Type 0
StandsFirstAt name [] place = ⊥
StandsFirstAt name (f ∷ fs) zero = f.name ≡ name
StandsFirstAt name (f ∷ fs) (suc place) = (f.name ≢ name) × StandsFirstAt name fs place

-- the bytes of a file that are read as they were written: if a sync of it failed, those that the disk has
abbrev pub known_of : FileState → List ℕ
known_of state = if state.torn then take state.written state.bytes else state.bytes

-- what one read from a place on gives, if there is room: known bytes, and past these zeros
abbrev pub shown : ℕ → FileState → List ℕ
shown at state =
    if nat_lt at (length (known_of state))
    then drop at (known_of state)
    else replicate (length state.bytes - at) 0

-- what a stop leaves of a file: what the disk has of it, and nothing if it lacks its name
abbrev pub left_of : NamedFile → Left
left_of f = record { name = f.name; bytes = stable_bytes (Some (held_of f.state)) }

-- the bytes that a stop left of a name
abbrev pub left_bytes : List Left → List ℕ → List ℕ
left_bytes [] name = []
left_bytes (l ∷ ls) name = if bytes_eq l.name name then l.bytes else left_bytes ls name

-- what was noted, and if nothing was this
abbrev pub noted_or : Option (List Left) → List Left → List Left
noted_or None now = now
noted_or (Some left) now = left

-- what a stop left at a moment: what was noted before the call that counted then, and now what the files are
abbrev pub left_at : List NamedFile → List (List Left) → ℕ → List Left
left_at files past moment = noted_or (slice_get past moment) (map left_of files)

-- a call counts exactly if it changed what the file is as a volume
abbrev pub Counts : Bool → FileState → FileState → Type 0
Counts true old new = held_of new ≢ held_of old
Counts false old new = held_of new ≡ held_of old

-- what was left is noted before a call that counts
abbrev pub noted : Bool → List Left → List (List Left) → List (List Left)
noted true left past = past ++ left ∷ []
noted false left past = past

-- after a stop a file is there if some byte of it was left; the tail was not synced
abbrev pub state_after : List ℕ → List ℕ → Option FileState
state_after [] tail = None
state_after (b ∷ bytes) tail = Some (record {
  bytes = (b ∷ bytes) ++ tail;
  written = length (b ∷ bytes);
  named = true;
  torn = false;
})

-- the file after a stop, under its name
abbrev pub left_file : List ℕ → Left → Option NamedFile
left_file tail l =
    option_map (λ state. record { name = l.name; state = state }) (state_after l.bytes tail)

-- none of these names is this one
abbrev pub Lacks : List ℕ → List (List ℕ) → Type 0
Lacks name names = AllByRecursion (λ other. other ≢ name) names

-- no two names are one
abbrev pub Differ : List (List ℕ) → Type 0
Differ [] = Unit {0}
Differ (name ∷ names) = Lacks name names × Differ names

-- of which there is one proof at most, as a ghost field has to be
pub Differ-prop : (names : List (List ℕ)) → IsProp (Differ names)
Differ-prop [] = Unit-prop
Differ-prop (name ∷ names) =
    ×_prop (AllByRecursion-prop (λ other. other ≢ name) (λ other. →_prop (λ none. absurd none)) names) (Differ-prop names)

-- the disk has no more of any file than was written
abbrev pub AllWithin : List NamedFile → Type 0
AllWithin files = AllByRecursion (λ f. f.state.written ≤ length f.state.bytes) files

-- so is this
pub AllWithin-prop : (files : List NamedFile) → IsProp (AllWithin files)
AllWithin-prop files = AllByRecursion-prop (λ f. f.state.written ≤ length f.state.bytes) (λ f. le_prop) files

-- no two files of any moment had one name
abbrev pub AllDiffer : List (List Left) → Type 0
AllDiffer past = AllByRecursion (λ left. Differ (map (λ l. l.name) left)) past

-- and this
pub AllDiffer-prop : (past : List (List Left)) → IsProp (AllDiffer past)
AllDiffer-prop past =
    AllByRecursion-prop (λ left. Differ (map (λ l. l.name) left)) (λ left. Differ-prop (map (λ l. l.name) left)) past

-- what holds of the files and of what was noted
pub record AreSound (files : List NamedFile) (past : List (List Left)) : Type 0 where
  pub differ : Differ (map (λ f. f.name) files)
  pub within : AllWithin files
  pub were : AllDiffer past
