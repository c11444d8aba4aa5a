-- What adopting a volume finds on the shelf, and what it leaves there.
use Rattle.std.specs.Prelude.{◌≡◌, ◌≢◌, ℕ, ◌+◌, ◌<◌, ◌≤◌, ◌⊎◌, List, [], ◌∷◌, ◌++◌, length, take, drop, All, if◌then◌else◌, nat_le, None, Some, Result, IfOk, IfErr, IsErrOf, IsErrAnd}
use Rattle.sd_base.specs.Limits.{block_header, most_volume}
use Rattle.sd_block.specs.declared.head.Head.{Head}
use Rattle.sd_driver.specs.Meaning.{Meaning}
use Rattle.sd_driver.specs.Shelf.{Shelf, Held, BeginsWith, Lasts, StillLastsBelow}
use Rattle.sd_label.specs.declared.label.VolumeLabel.{VolumeLabel}
use Rattle.sd_label.specs.Label.{IsVolumeLabel}
use Rattle.sd_volume.specs.declared.volume.VolumeStatus.{VolumeStatus}
use Rattle.sd_volume.specs.declared.volume.VolumeStatus.TheVariants.{Append, Full}
use Rattle.sd_volume.specs.declared.fault.AdoptFault.{AdoptFault}
use Rattle.sd_volume.specs.declared.fault.AdoptFault.TheVariants.{NotOnShelf, NotOurVolume, OtherMedia, BlocksOfThisRun, Device, Memory}
use Rattle.sd_volume.specs.Device.{OnlyReads}
use Rattle.sd_volume.specs.Image.{Block, label_block, volume_end, LastBegins, BeginsWithBlock, VolumeImage, WholeImage}
use Rattle.sd_volume.specs.Volume.{VolumeView, StandsOn}

-- the bytes begin with the block of this label, which has this name
pub record IsLabelled (name bytes : List ℕ) (label : VolumeLabel) : Type 0 where
  pub label_is : IsVolumeLabel label
  pub name_is : label.name ≡ name
  pub begins : BeginsWith bytes (label_block label)

-- the block is the label block of this label, which has this name
pub record IsLabelOf (name block : List ℕ) (label : VolumeLabel) : Type 0 where
  pub label_is : IsVolumeLabel label
  pub name_is : label.name ≡ name
  pub block_is : block ≡ label_block label

-- a volume of this profile and name: the bytes begin with its label block, and are no longer than a volume may be
pub record IsVolumeOf (name bytes : List ℕ) (label : VolumeLabel) : Type 0 where
  pub label_is : IsVolumeLabel label
  pub name_is : label.name ≡ name
  pub begins : BeginsWith bytes (label_block label)
  pub most : length bytes ≤ most_volume

-- each of the blocks is of a session of an earlier run
abbrev pub AreEarlier : ℕ → List Block → Type 0
AreEarlier start = All (λ block. block.key.time < start)

-- among the blocks that come in order after the label there is one that is of no earlier run
pub record HasBlockOfThisRun (start : ℕ) (bytes : List ℕ) (label : VolumeLabel) : Type 0 where
  pub before : List Block
  pub block : Block
  pub tail : List ℕ
  pub image : VolumeImage bytes label (before ++ block ∷ []) tail
  pub time : start ≤ block.key.time

-- Which refusal of an adoption is due, by what is on the shelf: the first in this order.
abbrev pub IsDue : AdoptFault → List ℕ → List ℕ → ℕ → Shelf → Type 0
IsDue NotOnShelf name media start shelf = shelf.volume name ≡ None
IsDue NotOurVolume name media start shelf =
    (held : Held) × (shelf.volume name ≡ Some held)
    × ((label : VolumeLabel) → ¬ IsVolumeOf name held.bytes label)
IsDue OtherMedia name media start shelf =
    (held : Held) × (shelf.volume name ≡ Some held)
    × ((label : VolumeLabel) × IsVolumeOf name held.bytes label × (label.media ≢ media))
IsDue BlocksOfThisRun name media start shelf =
    (held : Held) × (shelf.volume name ≡ Some held)
    × ((label : VolumeLabel) × IsVolumeOf name held.bytes label
    × (label.media ≡ media) × HasBlockOfThisRun start held.bytes label)
IsDue Device name media start shelf = ⊥
IsDue Memory name media start shelf = ⊥

-- The bytes are a volume of this name and media type, all of whose blocks are of earlier runs, and this is known
-- of it: where its blocks end, so that no block with the next number is there, what that number is, and where the
-- last of them begins.
pub record IsAdoptable (name media : List ℕ) (start : ℕ) (bytes : List ℕ) (v : VolumeView) : Type 0 where
  pub label : VolumeLabel
  pub blocks : List Block
  pub tail : List ℕ
  pub ours : IsVolumeOf name bytes label
  pub media_is : label.media ≡ media
  pub whole : WholeImage bytes label blocks tail
  pub earlier : AreEarlier start blocks
  pub pool_is : v.pool ≡ label.pool
  pub end_is : v.end ≡ volume_end label blocks
  pub next_is : v.next_number ≡ 1 + length blocks
  pub first_is : v.first ≡ length (label_block label)
  pub last_is : LastBegins label blocks v.last

-- The volume was there and adoptable. It was cut where its blocks end and nowhere else, is there with those
-- blocks, and all of it lasts from now on; all other volumes stay.
pub record Adopts (name media : List ℕ) (start : ℕ) (v : VolumeView) (old new : Shelf) : Type 0 where
  pub held : Held
  pub there : old.volume name ≡ Some held
  pub found : IsAdoptable name media start held.bytes v
  pub cut : new.volume name ≡ Some (record { bytes = take v.end held.bytes; stable = v.end })
  pub stands : StandsOn v new found.label found.blocks []
  pub lasts : Lasts new.moment name (take v.end held.bytes) new
  pub others : (other : List ℕ) → other ≢ name → new.volume other ≡ old.volume other

-- whether blocks are added to an adopted volume that ends there
abbrev pub status_at : ℕ → ℕ → VolumeStatus
status_at limit end = if nat_le limit end then Full else Append

-- the bytes of the volume up to a place are as they were, whatever comes after, and so are all other volumes
pub record KeepsUpTo (to : ℕ) (name : List ℕ) (old new : Shelf) : Type 0 where
  pub here : (held : Held) → old.volume name ≡ Some held
      → (after : Held) × (new.volume name ≡ Some after)
      × BeginsWith after.bytes (take to held.bytes)
  pub others : (other : List ℕ) → other ≢ name → new.volume other ≡ old.volume other

-- A volume keeps its whole blocks, whatever becomes of what is after them: up to where its label block ends, and any
-- blocks that come in order after it, its bytes are as they were, and what lasted of them still lasts. All other
-- volumes stay.
abbrev pub KeepsWholeBlocks : List ℕ → Shelf → Shelf → Type 0
KeepsWholeBlocks name old new = (held : Held) → old.volume name ≡ Some held
    → (label : VolumeLabel) (blocks : List Block) (tail : List ℕ) → VolumeImage held.bytes label blocks tail
    → KeepsUpTo (volume_end label blocks) name old new × StillLastsBelow (volume_end label blocks) name old new

-- What an adoption answers and leaves, with an honest device. It adopts the volume, or answers which refusal is due,
-- unless the device failed or memory ran out; and each refusal that is due is answered, or one of those two. Whole
-- blocks are kept, whatever it answers. If a refusal is due, the device is only read.
pub record AnswersAdoption (name media : List ℕ) (start : ℕ)
    (result : Result VolumeView AdoptFault) (old new : Meaning) : Type 0 where
  pub adopts : IfOk result (λ volume. Adopts name media start volume old.shelf new.shelf)
  pub due : IfErr result (λ fault. fault ≢ Device → fault ≢ Memory → IsDue fault name media start old.shelf)
  pub refuses : (fault : AdoptFault) → IsDue fault name media start old.shelf
      → IsErrAnd result (λ answer. (answer ≡ fault) ⊎ (answer ≡ Device) ⊎ (answer ≡ Memory))
  pub keeps : KeepsWholeBlocks name old.shelf new.shelf
  pub only_reads : (fault : AdoptFault) → IsDue fault name media start old.shelf
      → OnlyReads (IsErrOf result Device) old new

-- a volume was cut at a place, and all of what is left lasts from now on; all others stay
pub record CutsAt (to : ℕ) (name : List ℕ) (old new : Shelf) : Type 0 where
  pub here : (held : Held) → old.volume name ≡ Some held
      → new.volume name
      ≡ Some (record { bytes = take to held.bytes; stable = length (take to held.bytes) })
  pub lasts : (held : Held) → old.volume name ≡ Some held
      → Lasts new.moment name (take to held.bytes) new
  pub others : (other : List ℕ) → other ≢ name → new.volume other ≡ old.volume other

-- the blocks that come in order after the label, all of earlier runs, up to a place where the next number is due; and
-- where the last of them begins
pub record GoesUpTo (start : ℕ) (bytes : List ℕ) (label : VolumeLabel) (end next last : ℕ) : Type 0 where
  pub blocks : List Block
  pub image : VolumeImage bytes label blocks (drop end bytes)
  pub end_is : end ≡ volume_end label blocks
  pub next_is : next ≡ 1 + length blocks
  pub last_is : LastBegins label blocks last
  pub earlier : AreEarlier start blocks

-- at that place is the block with this head and that number
abbrev pub BlockStandsAt : ℕ → ℕ → List ℕ → Head → Type 0
BlockStandsAt at number bytes head =
    (body : List ℕ) × BeginsWithBlock (drop at bytes) head.key number body
    × (head.size ≡ block_header + length body)
