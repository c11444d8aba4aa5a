-- A block has one image, and an image is of one block, also if more bytes come after it.
use Rattle.std.specs.Prelude.{◌≡◌, ℕ, ◌+◌, List, ◌++◌, length, take}
use Rattle.sd_base.specs.Limits.{block_header}
use Rattle.sd_base.specs.declared.number.SessionKey.{SessionKey}
use Rattle.sd_block.specs.Image.{block_image, IsBlockImage, IsImage}
use Rattle.sd_block.specs.Head.{IsHeadOf}

-- an image is as long as the header and the body
abbrev pub LengthOfAnImage : Type 0
LengthOfAnImage =
    (key : SessionKey) (number : ℕ) (body : List ℕ)
    → length (block_image key number body) ≡ block_header + length body

-- two blocks with the same image have the same key, number and body
abbrev pub OneBlockOfAnImage : Type 0
OneBlockOfAnImage =
    (max max' : ℕ) (image : List ℕ)
    (key key' : SessionKey) (number number' : ℕ) (body body' : List ℕ)
    → IsBlockImage max image key number body
    → IsBlockImage max' image key' number' body'
    → (key ≡ key') × (number ≡ number') × (body ≡ body')

-- two images that begin the same bytes are one image, and what comes after them is the same
abbrev pub OneImageAtAPlace : Type 0
OneImageAtAPlace =
    (max max' : ℕ) (image image' behind behind' : List ℕ)
    → IsImage max image
    → IsImage max' image'
    → image ++ behind ≡ image' ++ behind'
    → (image ≡ image') × (behind ≡ behind')

-- bytes that begin with the header of an image have the head of its block, however they go on
abbrev pub HeadOfAnImage : Type 0
HeadOfAnImage =
    (max : ℕ) (image bytes : List ℕ) (key : SessionKey) (number : ℕ) (body : List ℕ)
    → IsBlockImage max image key number body
    → take block_header bytes ≡ take block_header image
    → IsHeadOf max bytes (record { key = key; number = number; size = length image })
