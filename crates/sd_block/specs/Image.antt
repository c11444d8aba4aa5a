-- The image of a block: the bytes that are on a volume for one body of a session.
use Rattle.std.specs.Prelude.{◌≡◌, ℕ, ◌+◌, ◌^◌, ◌<◌, ◌≤◌, List, ◌++◌, length, codes}
use Rattle.sd_base.specs.Field.{u32_bytes}
use Rattle.sd_base.specs.Limits.{block_header, least_body}
use Rattle.sd_base.specs.declared.number.SessionKey.{SessionKey}
use Rattle.sd_crc.specs.Crc32.{crc32_of}

-- the header after its checksum: the block's size, its number, `BB02`, the session's number, its time
unfoldable pub header_fields : SessionKey → ℕ → ℕ → List ℕ
header_fields key number size =
    u32_bytes size ++ u32_bytes number ++ codes "BB02" ++ u32_bytes key.id ++ u32_bytes key.time

-- all of a block that comes after the checksum, whose size counts the whole header
abbrev pub summed_bytes : SessionKey → ℕ → List ℕ → List ℕ
summed_bytes key number body = header_fields key number (block_header + length body) ++ body

-- the block: the checksum of those bytes, then those bytes
unfoldable pub block_image : SessionKey → ℕ → List ℕ → List ℕ
block_image key number body =
    u32_bytes (crc32_of (summed_bytes key number body)) ++ summed_bytes key number body

-- each number fits its four bytes of a header
pub record FitsHeader (key : SessionKey) (number size : ℕ) : Type 0 where
  pub time_fits : key.time < 2 ^ 32
  pub id_fits : key.id < 2 ^ 32
  pub number_fits : number < 2 ^ 32
  pub size_fits : size < 2 ^ 32

-- these bytes are the block of this key, number and body, which is one of at most `max` bytes
pub record IsBlockImage
    (max : ℕ) (image : List ℕ) (key : SessionKey) (number : ℕ) (body : List ℕ) : Type 0 where
  pub image_is : image ≡ block_image key number body
  pub fits : FitsHeader key number (block_header + length body)
  pub least : least_body ≤ length body
  pub most : block_header + length body ≤ max

-- these bytes are some block of at most `max` bytes
pub record IsImage (max : ℕ) (image : List ℕ) : Type 0 where
  pub key : SessionKey
  pub number : ℕ
  pub body : List ℕ
  pub block : IsBlockImage max image key number body
