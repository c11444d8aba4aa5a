-- The log of the calls that changed a volume: enough to find what was stable before each of them.
use Rattle.std.specs.Prelude.{◌≡◌, ℕ, if◌then◌else◌, List, [], ◌∷◌, ◌++◌, length, take, drop, Option, Some, None, option_map}
use Rattle.std.specs.Str.{bytes_eq}
use Rattle.sd_driver.specs.Shelf.{Held, Shelf, stable_bytes}
use Rattle.sd_memdrive.specs.declared.change_log.Change.{Change}
use Rattle.sd_memdrive.specs.Volumes.{Volume, volume_of}

-- the stable bytes of a volume before a change, if these are its stable bytes after it
abbrev pub undo_change : Change → List ℕ → List ℕ → List ℕ
undo_change change name bytes =
    if bytes_eq change.name name then take change.stable (bytes ++ change.lost) else bytes

-- the stable bytes of a volume before all these changes, the oldest of which comes first
abbrev pub undo : List Change → List ℕ → List ℕ → List ℕ
undo [] name bytes = bytes
undo (change ∷ later) name bytes = undo_change change name (undo later name bytes)

-- the shelf of these volumes, with the log of all that changed them
abbrev pub shelf_of : List Volume → List Change → Shelf
shelf_of volumes changes = record {
  volume = volume_of volumes;
  moment = length changes;
  kept = λ moment name. undo (drop moment changes) name (stable_bytes (volume_of volumes name));
}

-- what a stop leaves, if these bytes of a volume are stable and the device adds a tail
abbrev pub left_of : List ℕ → List ℕ → Option Held
left_of [] tail = None
left_of (b ∷ bytes) tail =
    Some (record { bytes = (b ∷ bytes) ++ tail; stable = length (b ∷ bytes) })

-- what a stop before these changes leaves of a volume
abbrev pub left_volume : List Change → List ℕ → Volume → Option Volume
left_volume later tail v = option_map
    (λ held. record { name = v.name; held = held })
    (left_of (undo later v.name (stable_bytes (Some v.held))) tail)

-- a name that is not there never had stable bytes
abbrev pub NoneWithout : List Volume → List Change → Type 0
NoneWithout volumes changes =
    (name : List ℕ) (moment : ℕ) → volume_of volumes name ≡ None
    → undo (drop moment changes) name [] ≡ []
