-- What the header of a block says.
use Rattle.std.specs.Prelude.{◌≡◌, ℕ, ◌≤◌, List, length, take, drop, codes}
use Rattle.sd_base.specs.Field.{u32_bytes}
use Rattle.sd_base.specs.Limits.{block_header, least_block}
use Rattle.sd_block.specs.Image.{FitsHeader}
use Rattle.sd_block.specs.declared.head.Head.{Head}

-- the four bytes at a place
abbrev pub field_at : ℕ → List ℕ → List ℕ
field_at at bytes = take 4 (drop at bytes)

-- there are the bytes of a header
abbrev pub HasHeader : List ℕ → Type 0
HasHeader bytes = block_header ≤ length bytes

-- the header names the form `BB02`
abbrev pub HasId : List ℕ → Type 0
HasId bytes = field_at 12 bytes ≡ codes "BB02"

-- these numbers are in the fields of the header
pub record SaysFields (bytes : List ℕ) (head : Head) : Type 0 where
  pub fits : FitsHeader head.key head.number head.size
  pub size : field_at 4 bytes ≡ u32_bytes head.size
  pub number : field_at 8 bytes ≡ u32_bytes head.number
  pub session_id : field_at 16 bytes ≡ u32_bytes head.key.id
  pub session_time : field_at 20 bytes ≡ u32_bytes head.key.time

-- the bytes begin with this header, of a block of at most `max` bytes
pub record IsHeadOf (max : ℕ) (bytes : List ℕ) (head : Head) : Type 0 where
  pub header : HasHeader bytes
  pub block_id : HasId bytes
  pub fields : SaysFields bytes head
  pub least : least_block ≤ head.size
  pub most : head.size ≤ max
