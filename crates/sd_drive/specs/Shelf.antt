-- What a drive's journal says of the shelf of its device, and what a drive keeps of that.
use Rattle.std.specs.Prelude.{◌≡◌, ℕ, ◌+◌, ◌<◌, ◌≤◌, false, List, [], ◌∷◌, ◌++◌, length, map, take, drop, if◌then◌else◌, Option, None, Some, IfSome, slice_get}
use Rattle.std.specs.List.{AllByRecursion}
use Rattle.std.specs.Str.{bytes_eq}
use Rattle.std.specs.Option.{option_to_list}
use Rattle.sd_base.specs.Limits.{block_header}
use Rattle.sd_driver.specs.Meaning.{Meaning, IsHonest}
use Rattle.sd_driver.specs.Shelf.{Shelf, Held, Lasts, stable_bytes}
use Rattle.sd_journal.specs.Journal.{Entry, is_purged, live}
use Rattle.sd_journal.specs.declared.mark.Mark.TheVariants.{Unsynced, Synced}
use Rattle.sd_label.specs.declared.label.VolumeLabel.{VolumeLabel}
use Rattle.sd_lane.specs.declared.piece.Piece.{Piece}
use Rattle.sd_span.specs.declared.placement.Placement.{Placement}
use Rattle.sd_volume.specs.Image.{Block, volume_end}
use Rattle.sd_volume.specs.Volume.{VolumeView, StandsOn}
use Rattle.sd_drive.specs.View.{names, name_loaded, items, block_of_piece}

-- the bytes of a volume at a place, none if there is no volume
abbrev pub bytes_at : Option Held → ℕ → ℕ → List ℕ
bytes_at None start count = []
bytes_at (Some held) start count = take count (drop start held.bytes)

-- the bytes at a placement
abbrev pub image_at : Shelf → Placement → List ℕ
image_at shelf p = bytes_at (shelf.volume p.volume) p.start p.length

-- the block at a placement: its body is read off the shelf
abbrev pub block_at : Shelf → Placement → Block
block_at shelf p = record { key = p.key; body = drop block_header (image_at shelf p) }

-- the block at the placement of an entry; none if it is gone
abbrev pub block_of_entry : Shelf → Entry → Option Block
block_of_entry shelf e = if is_purged e.mark then None else Some (block_at shelf e.placement)

-- the blocks at the journal's placements, blank if gone, then that of the piece in the hand, in the order of the pieces
abbrev pub blocks : Shelf → List Entry → Option Piece → List (Option Block)
blocks shelf journal hand =
    map (block_of_entry shelf) journal ++ map (λ (p : Piece). Some (block_of_piece p)) (option_to_list hand)

-- the placement ends at or below its volume's stable length, and since some moment every stop leaves the volume up to there
pub record IsSafe (shelf : Shelf) (p : Placement) : Type 0 where
  pub held : Held
  pub there : shelf.volume p.volume ≡ Some held
  pub stable : p.start + p.length ≤ held.stable
  pub since : ℕ
  pub past : since ≤ shelf.moment
  pub lasts : Lasts since p.volume (take (p.start + p.length) held.bytes) shelf

-- if the entry's block is synced, it is safe
abbrev pub IsSafeIfSynced : Shelf → Entry → Type 0
IsSafeIfSynced shelf e = e.mark ≡ Synced → IsSafe shelf e.placement

-- the placements on one volume, in order
abbrev pub placements_on : List ℕ → List Placement → List Placement
placements_on name [] = []
placements_on name (p ∷ ps) = if bytes_eq p.volume name then p ∷ placements_on name ps else placements_on name ps

-- the blocks at the placements on one volume, in order
abbrev pub blocks_on : Shelf → List ℕ → List Placement → List Block
blocks_on shelf name ps = map (block_at shelf) (placements_on name ps)

-- The placements are those of these blocks after a volume's earlier ones: each reaches from the end before it to its own.
abbrev pub LieBehind : VolumeLabel → List Block → List Placement → List Block → Type 0
LieBehind label earlier [] [] = Unit {0}
LieBehind label earlier [] (b ∷ bs) = ⊥
LieBehind label earlier (p ∷ ps) [] = ⊥
LieBehind label earlier (p ∷ ps) (b ∷ bs) =
    (p.start ≡ volume_end label earlier)
    × (p.start + p.length ≡ volume_end label (earlier ++ b ∷ []))
    × LieBehind label (earlier ++ b ∷ []) ps bs

-- The blocks of the volume on the shelf are those that it had when it came to the drive and then those at the placements
-- on it, in their order and no others; and each placement is where its block begins and ends.
pub record IsLaidOut (shelf : Shelf) (ps : List Placement) (v : VolumeView) : Type 0 where
  pub label : VolumeLabel
  pub earlier : List Block
  pub tail : List ℕ
  pub stands : StandsOn v shelf label (earlier ++ blocks_on shelf v.name ps) tail
  pub lie : LieBehind label earlier (placements_on v.name ps) (blocks_on shelf v.name ps)

-- so is every volume of the drive
abbrev pub AreLaidOut : Shelf → List Placement → List VolumeView → Type 0
AreLaidOut shelf ps volumes = (at : ℕ) (v : VolumeView) → slice_get volumes at ≡ Some v → IsLaidOut shelf ps v

-- the entry's block lies on one of the volumes, or did; before its end, unless it is gone
pub record LiesOn (volumes : List VolumeView) (e : Entry) : Type 0 where
  pub at : ℕ
  pub volume : VolumeView
  pub there : slice_get volumes at ≡ Some volume
  pub name_is : e.placement.volume ≡ volume.name
  pub within : is_purged e.mark ≡ false → e.placement.start + e.placement.length ≤ volume.end

-- if the entry isn't synced yet, its volume is the loaded one
abbrev pub IsOnLoaded : Option (List ℕ) → Entry → Type 0
IsOnLoaded loaded e = e.mark ≡ Unsynced → loaded ≡ Some e.placement.volume

-- no two volumes have one name
abbrev pub NamesDiffer : List VolumeView → Type 0
NamesDiffer volumes = (at other : ℕ) (name : List ℕ)
    → slice_get (names volumes) at ≡ Some name → slice_get (names volumes) other ≡ Some name → at ≡ other

-- What a drive keeps, whatever its calls answer. Always: the device has that volume loaded which the drive says, one of
-- its own; no two volumes have one name; every block of the journal that isn't gone lies on one of them, and those not
-- synced yet on the loaded one. While the device is honest: each volume is on the shelf, and since it came to the
-- drive, or was purged, the blocks of the journal alone were added there, in its order; and those that are synced last.
pub record Kept (device : Meaning) (volumes : List VolumeView) (loaded : Option ℕ) (journal : List Entry) : Type 0 where
  pub tied : device.loaded ≡ name_loaded volumes loaded
  pub one_of : IfSome loaded (λ at. at < length volumes)
  pub differ : NamesDiffer volumes
  pub lie : AllByRecursion (LiesOn volumes) journal
  pub unsynced : AllByRecursion (IsOnLoaded (name_loaded volumes loaded)) journal
  pub laid : IsHonest device → AreLaidOut device.shelf (live journal) volumes
  pub safe : IsHonest device → AllByRecursion (IsSafeIfSynced device.shelf) journal

-- what a call keeps: whether the device is honest, the pieces given so far, and, while it is honest, their blocks
pub record KeepsPieces (old new : Meaning)
    (journal journal' : List Entry) (hand hand' : Option Piece) : Type 0 where
  pub honest : new.honest ≡ old.honest
  pub items : items journal' hand' ≡ items journal hand
  pub blocks : IsHonest old → blocks new.shelf journal' hand' ≡ blocks old.shelf journal hand

-- what a stop now leaves of the shelf is what is stable now; it is so after every call of a device
abbrev pub LeavesStable : Shelf → Type 0
LeavesStable shelf = (name : List ℕ) → shelf.kept shelf.moment name ≡ stable_bytes (shelf.volume name)
