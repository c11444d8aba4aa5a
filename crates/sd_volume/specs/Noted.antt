-- When the note of a volume is true, what of it an adoption looks at, and what an adoption by a note does whatever the
-- note says.
use Rattle.std.specs.Prelude.{◌≡◌, ◌⊎◌, ℕ, ◌+◌, ◌*◌, ◌<◌, ◌≤◌, List, length, take, drop, All, Option, Some, IfSome}
use Rattle.sd_base.specs.Limits.{block_header, least_block}
use Rattle.sd_base.specs.declared.number.SessionKey.{SessionKey}
use Rattle.sd_driver.specs.Shelf.{Shelf, Held, SameShelf, Lasts, StillLastsBelow}
use Rattle.sd_label.specs.declared.label.VolumeLabel.{VolumeLabel}
use Rattle.sd_note.specs.declared.note.Note.{Note}
use Rattle.sd_volume.specs.Adopt.{IsVolumeOf, KeepsUpTo}
use Rattle.sd_volume.specs.Image.{Block, label_block, volume_end, LastBegins, BeginsWithBlock, NoBlockNext, VolumeImage}
use Rattle.sd_volume.specs.Volume.{VolumeView}

-- What the note says is true of these bytes: they begin with a label of its moment and with blocks that end at its end,
-- where its next number is due; the last of them begins at its last place; and none is of a later time than its greatest.
pub record IsTrueOf (note : Note) (bytes : List ℕ) : Type 0 where
  pub label : VolumeLabel
  pub blocks : List Block
  pub image : VolumeImage bytes label blocks (drop note.end bytes)
  pub moment_is : label.moment ≡ note.moment
  pub end_is : note.end ≡ volume_end label blocks
  pub next_is : note.next_number ≡ 1 + length blocks
  pub last_is : LastBegins label blocks note.last
  pub times : All (λ block. block.key.time ≤ note.time) blocks

-- the shelf has a volume of this name, and what the note says is true of it
abbrev pub IsTrueNote : Note → List ℕ → Shelf → Type 0
IsTrueNote note name shelf = (held : Held) × (shelf.volume name ≡ Some held) × IsTrueOf note held.bytes

-- a whole block of an earlier run, with the number before `next`, stands at `last` and ends at `end`
pub record EndsWithBlock (start : ℕ) (bytes : List ℕ) (last end next : ℕ) : Type 0 where
  pub key : SessionKey
  pub number : ℕ
  pub body : List ℕ
  pub block : BeginsWithBlock (drop last bytes) key number body
  pub earlier : key.time < start
  pub end_is : end ≡ last + (block_header + length body)
  pub next_is : next ≡ number + 1

-- The numbers of the note may be those of a volume with this label and size: its moment is the label's, its greatest time is
-- of an earlier run, its last place is behind the label block and within the size, and below its end is room for as many
-- blocks as its number says.
pub record MayFit (note : Note) (start : ℕ) (label : VolumeLabel) (size : ℕ) : Type 0 where
  pub moment_is : label.moment ≡ note.moment
  pub time : note.time < start
  pub behind : length (label_block label) ≤ note.last
  pub within : note.last ≤ size
  pub number : 1 ≤ note.next_number
  pub room : note.next_number * least_block ≤ note.end

-- The note fits the volume with this label, as far as an adoption looks: its numbers may, and at its last place stands a
-- whole block that ends as it says.
pub record Fits (note : Note) (start : ℕ) (bytes : List ℕ) (label : VolumeLabel) : Type 0 where
  pub may : MayFit note start label (length bytes)
  pub block : EndsWithBlock start bytes note.last note.end note.next_number

-- so it does, of the volume of this name on the shelf
pub record FitsNote (note : Note) (name : List ℕ) (start : ℕ) (shelf : Shelf) : Type 0 where
  pub held : Held
  pub there : shelf.volume name ≡ Some held
  pub label : VolumeLabel
  pub ours : IsVolumeOf name held.bytes label
  pub fits : Fits note start held.bytes label

-- a note, if there is one, is true if it fits: one that doesn't isn't heeded
abbrev pub IsTrusted : Option Note → List ℕ → ℕ → Shelf → Type 0
IsTrusted note name start shelf =
    IfSome note (λ given. FitsNote given name start shelf → IsTrueNote given name shelf)

-- The bytes are a volume of this name and media type, and what is known of it ends where a whole block does that stands on
-- it, of an earlier run, with the number before the next; or it ends where the label block does, and the next number
-- is 1. No block with the next number is there.
pub record IsFound (name media : List ℕ) (start : ℕ) (bytes : List ℕ) (v : VolumeView) : Type 0 where
  pub label : VolumeLabel
  pub ours : IsVolumeOf name bytes label
  pub media_is : label.media ≡ media
  pub pool_is : v.pool ≡ label.pool
  pub first_is : v.first ≡ length (label_block label)
  pub ends : EndsWithBlock start bytes v.last v.end v.next_number
      ⊎ ((v.last ≡ 0) × (v.end ≡ length (label_block label)) × (v.next_number ≡ 1))
  pub ended : NoBlockNext v.next_number (drop v.end bytes)

-- The volume was there, and was cut where such a block of it ends and nowhere else. All of what is left lasts from now on.
pub record CutsFound (name media : List ℕ) (start : ℕ) (v : VolumeView) (old new : Shelf) : Type 0 where
  pub held : Held
  pub there : old.volume name ≡ Some held
  pub found : IsFound name media start held.bytes v
  pub cut : new.volume name ≡ Some (record { bytes = take v.end held.bytes; stable = v.end })
  pub lasts : Lasts new.moment name (take v.end held.bytes) new

-- nothing changed; or the bytes of the volume up to where such a block of it ends are as they were, and what lasted of
-- them still lasts
abbrev pub KeepsFound : List ℕ → List ℕ → ℕ → Shelf → Shelf → Type 0
KeepsFound name media start old new =
    SameShelf old new
    ⊎ ((held : Held) × (v : VolumeView) × (old.volume name ≡ Some held) × IsFound name media start held.bytes v
    × KeepsUpTo v.end name old new × StillLastsBelow v.end name old new)
