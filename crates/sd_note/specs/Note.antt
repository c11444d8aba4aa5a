-- The bytes of a note, and what can be wrong with them.
use Rattle.std.specs.Prelude.{◌≡◌, ◌≢◌, ℕ, ◌^◌, ◌<◌, ◌≤◌, ◌-◌, ◌⊎◌, FitsSigned, List, ◌++◌, length, take, drop, codes, Option, Some, None, IfSome}
use Rattle.std.specs.Int.{w64}
use Rattle.sd_base.specs.Field.{u32_bytes, u64_bytes, i64_bytes}
use Rattle.sd_crc.specs.Crc32.{crc32_of}
use Rattle.sd_note.specs.declared.note.Note.{Note}

-- the bytes of a note
abbrev pub note_length : ℕ
note_length = 48

-- the form of these notes
abbrev pub note_form : List ℕ
note_form = codes "SN01"

-- what the last field holds if no sync failed
abbrev pub not_torn : ℕ
not_torn = 2 ^ 64 - 1

-- the number in the last field
abbrev pub torn_number : Option ℕ → ℕ
torn_number (Some length) = length
torn_number None = not_torn

-- all of a note that comes after its checksum
unfoldable pub note_fields : Note → List ℕ
note_fields note =
    note_form ++ i64_bytes note.moment ++ u64_bytes note.end ++ u64_bytes note.last
    ++ u32_bytes note.next_number ++ u32_bytes note.time ++ u64_bytes (torn_number note.torn)

-- each number fits its field, and no length is the number that stands for none
pub record FitsNote (note : Note) : Type 0 where
  pub moment : FitsSigned w64 note.moment
  pub end : note.end < 2 ^ 64
  pub last : note.last < 2 ^ 64
  pub next_number : note.next_number < 2 ^ 32
  pub time : note.time < 2 ^ 32
  pub torn : IfSome note.torn (λ length. length < not_torn)

-- these bytes are this note: the checksum of its fields, then the fields
pub record IsNote (bytes : List ℕ) (note : Note) : Type 0 where
  pub bytes_are : bytes ≡ u32_bytes (crc32_of (note_fields note)) ++ note_fields note
  pub fits : FitsNote note

-- these numbers are in the fields
pub record SaysFields (bytes : List ℕ) (note : Note) : Type 0 where
  pub fits : FitsNote note
  pub moment : take 8 (drop 8 bytes) ≡ i64_bytes note.moment
  pub end : take 8 (drop 16 bytes) ≡ u64_bytes note.end
  pub last : take 8 (drop 24 bytes) ≡ u64_bytes note.last
  pub next_number : take 4 (drop 32 bytes) ≡ u32_bytes note.next_number
  pub time : take 4 (drop 36 bytes) ≡ u32_bytes note.time
  pub torn : take 8 (drop 40 bytes) ≡ u64_bytes (torn_number note.torn)

-- the bytes name this form
abbrev pub HasForm : List ℕ → Type 0
HasForm bytes = (8 ≤ length bytes) × (take 4 (drop 4 bytes) ≡ note_form)

-- they name another
abbrev pub HasOtherForm : List ℕ → Type 0
HasOtherForm bytes = (8 ≤ length bytes) × (take 4 (drop 4 bytes) ≢ note_form)

-- the checksum is that of the bytes after it
abbrev pub HasSum : List ℕ → Type 0
HasSum bytes = take 4 bytes ≡ u32_bytes (crc32_of (drop 4 bytes))

-- they have the length of a note, and their checksum
abbrev pub IsWhole : List ℕ → Type 0
IsWhole bytes = (length bytes ≡ note_length) × HasSum bytes

-- they are too few to name a form, or name this one and have another length or another checksum
abbrev pub IsDamaged : List ℕ → Type 0
IsDamaged bytes = (length bytes < 8) ⊎ (HasForm bytes × ¬ IsWhole bytes)
