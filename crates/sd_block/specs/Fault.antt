-- What can be wrong with bytes that should be a block.
use Rattle.std.specs.Prelude.{◌≡◌, ◌≢◌, ℕ, ◌<◌, ◌≤◌, ◌^◌, ◌⊎◌, List, length, drop}
use Rattle.sd_base.specs.Field.{u32_bytes}
use Rattle.sd_base.specs.Limits.{block_header, least_block}
use Rattle.sd_crc.specs.Crc32.{crc32_of}
use Rattle.sd_block.specs.Head.{field_at, HasId}

-- there are fewer bytes than a header has
abbrev pub IsShort : List ℕ → Type 0
IsShort bytes = length bytes < block_header

-- the header names another form than `BB02`
abbrev pub HasBadId : List ℕ → Type 0
HasBadId bytes = ¬ HasId bytes

-- the size that the header says
abbrev pub SaysSize : List ℕ → ℕ → Type 0
SaysSize bytes size = (size < 2 ^ 32) × (field_at 4 bytes ≡ u32_bytes size)

-- no block of at most `max` bytes has this size
abbrev pub IsBadSize : ℕ → ℕ → Type 0
IsBadSize max size = (size < least_block) ⊎ (max < size)

-- the header says such a size
abbrev pub HasBadSize : ℕ → List ℕ → Type 0
HasBadSize max bytes = (size : ℕ) × (SaysSize bytes size × IsBadSize max size)

-- the header says such a size, or one that is not the number of the bytes
abbrev pub HasWrongSize : ℕ → List ℕ → Type 0
HasWrongSize max bytes =
    (size : ℕ) × (SaysSize bytes size × (IsBadSize max size ⊎ (size ≢ length bytes)))

-- the header says the number of the bytes, and a block of at most `max` bytes may have that size
abbrev pub HasRightSize : ℕ → List ℕ → Type 0
HasRightSize max bytes =
    SaysSize bytes (length bytes) × (least_block ≤ length bytes) × (length bytes ≤ max)

-- the checksum is that of the bytes after it
abbrev pub HasSum : List ℕ → Type 0
HasSum bytes = field_at 0 bytes ≡ u32_bytes (crc32_of (drop 4 bytes))

-- the checksum is another one
abbrev pub HasBadSum : List ℕ → Type 0
HasBadSum bytes = ¬ HasSum bytes
