-- What holds of every device, by what each of its calls promises.
use Rattle.std.specs.Prelude.{◌≡◌, ◌≢◌, ℕ, ◌≤◌, List, [], length, Option, Some}
use Rattle.sd_driver.specs.Shelf.{Shelf, Held, stable_bytes, BeginsWith, Passes, KeepsStable, KeepsStableTo, Syncs, Lasts, StillLasts, StillLastsBelow, AfterStop, low_mark}

-- what is stable after a call lasts from that moment on
abbrev pub StableBytesLast : Type 0
StableBytesLast =
    (name : List ℕ) (old new : Shelf)
    → Passes old new
    → Lasts new.moment name (stable_bytes (new.volume name)) new

-- all bytes of a loaded volume that was synced last from that moment on
abbrev pub SyncedBytesLast : Type 0
SyncedBytesLast =
    (name : List ℕ) (loaded : Option (List ℕ)) (held : Held) (old new : Shelf)
    → Passes old new
    → loaded ≡ Some name
    → Syncs loaded old new
    → old.volume name ≡ Some held
    → Lasts new.moment name held.bytes new

-- what lasted still lasts after every call but a cut
abbrev pub CallsKeepWhatLasts : Type 0
CallsKeepWhatLasts = (old new : Shelf) → Passes old new → KeepsStable old new → StillLasts old new

-- what lasted still lasts after a cut of the loaded volume, but for what was past the place of the cut
abbrev pub CutsKeepWhatLastsBelow : Type 0
CutsKeepWhatLastsBelow =
    (to : ℕ) (loaded : Option (List ℕ)) (volume : List ℕ) (old new : Shelf)
    → loaded ≡ Some volume
    → Passes old new
    → KeepsStableTo to loaded old new
    → StillLastsBelow to volume old new

-- the low mark of a volume since a moment is at least the length of what lasts since then
abbrev pub LastingBoundsLowMark : Type 0
LastingBoundsLowMark =
    (since : ℕ) (name bytes : List ℕ) (shelf : Shelf)
    → since ≤ shelf.moment
    → Lasts since name bytes shelf
    → length bytes ≤ low_mark shelf since name

-- after a stop a volume of which some bytes lasted is there and begins with them, and they are stable
abbrev pub StopLeavesWhatLasted : Type 0
StopLeavesWhatLasted =
    (since : ℕ) (name bytes : List ℕ) (shelf left : Shelf)
    → AfterStop since shelf left
    → Lasts since name bytes shelf
    → bytes ≢ []
    → (held : Held)
    × (left.volume name ≡ Some held)
    × BeginsWith held.bytes bytes
    × (length bytes ≤ held.stable)

-- what lasted before some calls and still lasts after them is among what a stop after them leaves
abbrev pub StopAfterLaterCalls : Type 0
StopAfterLaterCalls =
    (since : ℕ) (old new left : Shelf)
    → StillLasts old new
    → AfterStop since new left
    → AfterStop since old left
