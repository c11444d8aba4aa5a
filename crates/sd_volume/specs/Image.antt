-- The image of a volume: what its bytes are, and where its blocks end.
use Rattle.std.specs.Prelude.{◌≡◌, ℕ, ◌+◌, ◌⊎◌, List, [], ◌∷◌, ◌++◌, length, take}
use Rattle.sd_base.specs.Limits.{block_header, most_block}
use Rattle.sd_base.specs.declared.number.SessionKey.{SessionKey}
use Rattle.sd_block.specs.Image.{block_image, IsBlockImage}
use Rattle.sd_label.specs.declared.label.VolumeLabel.{VolumeLabel}
use Rattle.sd_label.specs.Label.{IsVolumeLabel, volume_label_bytes}

-- a block of a session, as it lies on a volume
pub record Block : Type 0 where
  pub key : SessionKey
  pub body : List ℕ

-- the images of blocks, one after the other, numbered from `number` on
abbrev pub images : ℕ → List Block → List ℕ
images number [] = []
images number (b ∷ bs) = block_image b.key number b.body ++ images (number + 1) bs

-- each of them is the image of a block
abbrev pub AreImages : ℕ → List Block → Type 0
AreImages number [] = Unit {0}
AreImages number (b ∷ bs) =
    IsBlockImage most_block (block_image b.key number b.body) b.key number b.body
    × AreImages (number + 1) bs

-- the bytes begin with the image of this block
abbrev pub BeginsWithBlock : List ℕ → SessionKey → ℕ → List ℕ → Type 0
BeginsWithBlock bytes key number body =
    IsBlockImage most_block (take (block_header + length body) bytes) key number body

-- the bytes begin with no block of this number, but perhaps with anything else, even most of such a block
abbrev pub NoBlockNext : ℕ → List ℕ → Type 0
NoBlockNext number bytes =
    (key : SessionKey) (body : List ℕ) → ¬ BeginsWithBlock bytes key number body

-- a label block is of no session: the session's number and time are 0
abbrev pub no_session : SessionKey
no_session = record { time = 0; id = 0 }

-- the label block of a volume, which holds the label alone and has the number 0
abbrev pub label_block : VolumeLabel → List ℕ
label_block label = block_image no_session 0 (volume_label_bytes label)

-- the label block and these blocks after it, which are numbered from 1 on
abbrev pub label_and_blocks : VolumeLabel → List Block → List ℕ
label_and_blocks label blocks = label_block label ++ images 1 blocks

-- The bytes of a volume are its label block, then these blocks, numbered 1, 2, .., then a tail of any bytes.
pub record VolumeImage (bytes : List ℕ)
    (label : VolumeLabel) (blocks : List Block) (tail : List ℕ) : Type 0 where
  pub label_is : IsVolumeLabel label
  pub blocks_are : AreImages 1 blocks
  pub bytes_are : bytes ≡ label_and_blocks label blocks ++ tail

-- where these blocks end
abbrev pub volume_end : VolumeLabel → List Block → ℕ
volume_end label blocks = length (label_and_blocks label blocks)

-- the last of these blocks begins there; or there is none, and the place is 0
abbrev pub LastBegins : VolumeLabel → List Block → ℕ → Type 0
LastBegins label blocks last =
    ((blocks ≡ []) × (last ≡ 0))
    ⊎ ((before : List Block) × (block : Block) × (blocks ≡ before ++ block ∷ []) × (last ≡ volume_end label before))

-- These are all the blocks: at `volume_end` of them, the volume's end, no block with the next number begins.
pub record WholeImage (bytes : List ℕ)
    (label : VolumeLabel) (blocks : List Block) (tail : List ℕ) : Type 0 where
  pub image : VolumeImage bytes label blocks tail
  pub ended : NoBlockNext (1 + length blocks) tail
