-- What is on the shelf of a device, how calls change it, and what a stop leaves of it.
use Rattle.std.specs.Prelude.{◌≡◌, ◌≢◌, ℕ, zero, suc, ◌+◌, ◌-◌, ◌≤◌, ◌⊎◌, min, List, [], ◌++◌, length, take, Option, Some, None}

-- a volume: its bytes, and how many of them, from the front, a stop leaves
pub record Held : Type 0 where
  pub bytes : List ℕ
  pub stable : ℕ

-- the volumes by name, and what a stop left at each moment till now; a moment counts the calls that had changed a volume
pub record Shelf : Type 0 where
  pub volume : List ℕ → Option Held
  pub moment : ℕ
  -- the bytes of a volume that a stop at a moment leaves
  pub kept : ℕ → List ℕ → List ℕ

-- the bytes of a volume that a stop leaves: its first `stable` bytes, and none if there is no volume
abbrev pub stable_bytes : Option Held → List ℕ
stable_bytes None = []
stable_bytes (Some held) = take held.stable held.bytes

-- the bytes begin with these
abbrev pub BeginsWith : List ℕ → List ℕ → Type 0
BeginsWith bytes front = take (length front) bytes ≡ front

-- every volume is as it was
abbrev pub SameShelf : Shelf → Shelf → Type 0
SameShelf old new = (name : List ℕ) → new.volume name ≡ old.volume name

-- some name, bytes or stable length is not as it was
abbrev pub OtherShelf : Shelf → Shelf → Type 0
OtherShelf old new = (name : List ℕ) × (new.volume name ≢ old.volume name)

-- a call counts exactly if it changed a volume, what a stop left earlier is not changed by it, and a stop
-- now leaves what is stable now
pub record Passes (old new : Shelf) : Type 0 where
  pub moments : (SameShelf old new × (new.moment ≡ old.moment))
      ⊎ (OtherShelf old new × (new.moment ≡ suc old.moment))
  pub past : (moment : ℕ) (name : List ℕ) → moment ≤ old.moment
      → new.kept moment name ≡ old.kept moment name
  pub now : (name : List ℕ) → new.kept new.moment name ≡ stable_bytes (new.volume name)

-- every stable byte stays so
abbrev pub KeepsStable : Shelf → Shelf → Type 0
KeepsStable old new =
    (name : List ℕ) → BeginsWith (stable_bytes (new.volume name)) (stable_bytes (old.volume name))

-- every stable byte before `to` stays so, and in another volume than the loaded one those past it too
pub record KeepsStableTo (to : ℕ) (loaded : Option (List ℕ)) (old new : Shelf) : Type 0 where
  pub front : (name : List ℕ)
      → BeginsWith (stable_bytes (new.volume name)) (take to (stable_bytes (old.volume name)))
  pub others : (name : List ℕ) → loaded ≢ Some name
      → BeginsWith (stable_bytes (new.volume name)) (stable_bytes (old.volume name))

-- an empty volume of a name that the shelf lacked
pub record Creates (name : List ℕ) (old new : Shelf) : Type 0 where
  pub absent : old.volume name ≡ None
  pub made : new.volume name ≡ Some (record { bytes = []; stable = 0 })
  pub others : (other : List ℕ) → other ≢ name → new.volume other ≡ old.volume other

-- nothing changes, but that a name which the shelf lacked may be there now, with any bytes
pub record MayCreate (name : List ℕ) (old new : Shelf) : Type 0 where
  pub there : (held : Held) → old.volume name ≡ Some held → new.volume name ≡ Some held
  pub others : (other : List ℕ) → other ≢ name → new.volume other ≡ old.volume other

-- the loaded volume takes this step, and all others stay
pub record Changes (step : Held → Held → Type 0) (loaded : Option (List ℕ)) (old new : Shelf) : Type 0 where
  pub here : (name : List ℕ) (held : Held) → loaded ≡ Some name → old.volume name ≡ Some held
      → (after : Held) × step held after × (new.volume name ≡ Some after)
  pub others : (name : List ℕ) → loaded ≢ Some name → new.volume name ≡ old.volume name

-- these bytes at the end
abbrev pub Appends : List ℕ → Option (List ℕ) → Shelf → Shelf → Type 0
Appends more = Changes
    (λ held after. after ≡ record { bytes = held.bytes ++ more; stable = held.stable })

-- some bytes, or none, at the end
abbrev pub MayAppend : Option (List ℕ) → Shelf → Shelf → Type 0
MayAppend = Changes (λ held after. (tail : List ℕ)
    × (after ≡ record { bytes = held.bytes ++ tail; stable = held.stable }))

-- all bytes are stable
abbrev pub Syncs : Option (List ℕ) → Shelf → Shelf → Type 0
Syncs = Changes (λ held after. after ≡ record { bytes = held.bytes; stable = length held.bytes })

-- the bytes stay, and more of them may be stable
abbrev pub MaySync : Option (List ℕ) → Shelf → Shelf → Type 0
MaySync = Changes (λ held after. (after.bytes ≡ held.bytes) × (held.stable ≤ after.stable))

-- the volume ends at `to`, or before
abbrev pub Truncates : ℕ → Option (List ℕ) → Shelf → Shelf → Type 0
Truncates to = Changes
    (λ held after. after ≡ record { bytes = take to held.bytes; stable = min to held.stable })

-- the bytes up to `to` stay, and as many of them are stable; what is past `to` may be anything
abbrev pub MayTruncate : ℕ → Option (List ℕ) → Shelf → Shelf → Type 0
MayTruncate to = Changes (λ held after. (tail : List ℕ)
    × (after.bytes ≡ take to held.bytes ++ tail)
    × (min to held.stable ≤ after.stable))

-- every stop since that moment, also one inside a call, leaves these bytes of the volume
pub record Lasts (since : ℕ) (name bytes : List ℕ) (shelf : Shelf) : Type 0 where
  pub before : (moment : ℕ) → since ≤ moment → moment ≤ shelf.moment
      → BeginsWith (shelf.kept moment name) bytes
  pub now : BeginsWith (stable_bytes (shelf.volume name)) bytes

-- whatever has lasted since some moment has lasted to the new shelf too
abbrev pub StillLasts : Shelf → Shelf → Type 0
StillLasts old new =
    (since : ℕ) (name bytes : List ℕ) → Lasts since name bytes old → Lasts since name bytes new

-- so it has, but for bytes of this volume that went past the byte at `to`
pub record StillLastsBelow (to : ℕ) (volume : List ℕ) (old new : Shelf) : Type 0 where
  pub below : (since : ℕ) (bytes : List ℕ) → length bytes ≤ to
      → Lasts since volume bytes old → Lasts since volume bytes new
  pub others : (since : ℕ) (name bytes : List ℕ) → name ≢ volume
      → Lasts since name bytes old → Lasts since name bytes new

-- what may be there after a stop at some time since that moment, also inside a call: of each volume the bytes
-- that lasted since then, which are stable still, and then anything; a volume of which none lasted may be missing
abbrev pub AfterStop : ℕ → Shelf → Shelf → Type 0
AfterStop since shelf left =
    (name bytes : List ℕ) → Lasts since name bytes shelf
    → BeginsWith (stable_bytes (left.volume name)) bytes

-- the least of so many values and one more, beginning at a place
abbrev pub lowest : (ℕ → ℕ) → ℕ → ℕ → ℕ
lowest f from zero = f from
lowest f from (suc more) = min (lowest f from more) (f (from + suc more))

-- the low mark of a volume since a moment: the least number of bytes that a stop since then left
abbrev pub low_mark : Shelf → ℕ → List ℕ → ℕ
low_mark shelf since name =
    lowest (λ moment. length (shelf.kept moment name)) since (shelf.moment - since)
