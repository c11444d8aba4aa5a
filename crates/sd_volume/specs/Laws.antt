-- What holds of the images of volumes, and of their notes, whoever wrote them.
use Rattle.std.specs.Prelude.{◌≡◌, ℕ, ◌+◌, List, [], ◌∷◌, ◌++◌, length, take, drop, Some}
use Rattle.sd_base.specs.Limits.{block_header}
use Rattle.sd_driver.specs.Shelf.{Shelf, Held, BeginsWith, Lasts, StillLastsBelow, AfterStop}
use Rattle.sd_label.specs.declared.label.VolumeLabel.{VolumeLabel}
use Rattle.sd_note.specs.declared.note.Note.{Note}
use Rattle.sd_volume.specs.Image.{Block, BeginsWithBlock, volume_end, VolumeImage, WholeImage}
use Rattle.sd_volume.specs.Noted.{IsTrueOf, IsTrueNote}
use Rattle.sd_volume.specs.Volume.{VolumeView, StandsOn}

-- the whole image of bytes is one: they tell its label, its blocks and its tail
abbrev pub OneWholeImage : Type 0
OneWholeImage =
    (bytes : List ℕ) (label other : VolumeLabel) (blocks others : List Block) (tail rest : List ℕ)
    → WholeImage bytes label blocks tail
    → WholeImage bytes other others rest
    → (label ≡ other) × (blocks ≡ others) × (tail ≡ rest)

-- bytes that begin with a label block and blocks have a whole image with that label, which begins with those blocks
abbrev pub WholeImageGoesOn : Type 0
WholeImageGoesOn =
    (bytes : List ℕ) (label other : VolumeLabel) (blocks all : List Block) (rest tail : List ℕ)
    → VolumeImage bytes label blocks rest
    → WholeImage bytes other all tail
    → (label ≡ other) × ((more : List Block) × (all ≡ blocks ++ more))

-- what keeps the bytes of a volume up to the end of its blocks, whatever comes after, is a volume with these blocks
abbrev pub KeptBlocksStand : Type 0
KeptBlocksStand =
    (bytes left : List ℕ) (label : VolumeLabel) (blocks : List Block) (tail : List ℕ)
    → VolumeImage bytes label blocks tail
    → BeginsWith left (take (volume_end label blocks) bytes)
    → VolumeImage left label blocks (drop (volume_end label blocks) left)

-- if the tail begins with the next block, that block is one block more
abbrev pub OneBlockMore : Type 0
OneBlockMore =
    (bytes : List ℕ) (label : VolumeLabel) (blocks : List Block) (tail : List ℕ) (block : Block)
    → VolumeImage bytes label blocks tail
    → BeginsWithBlock tail block.key (1 + length blocks) block.body
    → VolumeImage bytes label (blocks ++ block ∷ []) (drop (block_header + length block.body) tail)

-- the image of each block begins where those before it end
abbrev pub PlacedBlockStands : Type 0
PlacedBlockStands =
    (bytes : List ℕ) (label : VolumeLabel)
    (before after : List Block) (block : Block) (tail : List ℕ)
    → VolumeImage bytes label (before ++ block ∷ after) tail
    → BeginsWithBlock (drop (volume_end label before) bytes)
    block.key (1 + length before) block.body

-- what is known of a volume stays so if its bytes stay, whatever else changes on the shelf
abbrev pub StandsByItsBytes : Type 0
StandsByItsBytes =
    (v : VolumeView) (old new : Shelf) (held after : Held)
    (label : VolumeLabel) (blocks : List Block) (tail : List ℕ)
    → StandsOn v old label blocks tail
    → old.volume v.name ≡ Some held
    → new.volume v.name ≡ Some after
    → after.bytes ≡ held.bytes
    → StandsOn v new label blocks tail

-- What a note says stays true as long as the bytes below its end last: if it is true of a volume, and these bytes have
-- lasted since some moment and still last after more calls, it is true after those calls, and of what any stop leaves.
abbrev pub TrueNoteStays : Type 0
TrueNoteStays =
    (note : Note) (name : List ℕ) (old new : Shelf) (held : Held) (since : ℕ)
    → old.volume name ≡ Some held
    → IsTrueOf note held.bytes
    → Lasts since name (take note.end held.bytes) old
    → StillLastsBelow note.end name old new
    → IsTrueNote note name new
    × ((left : Shelf) → AfterStop since new left → IsTrueNote note name left)
