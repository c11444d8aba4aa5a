-- The header before the records of one FileIndex and Stream.
use Rattle.std.specs.Prelude.{◌≡◌, ◌==◌, ℕ, ◌≤◌, ◌<◌, if◌then◌else◌, List, [], ◌∷◌, length, drop, slice_index, All, Option}
use Rattle.std.specs.Fmt.{decimal}
use Rattle.sd_base.specs.Limits.{most_number}
use Rattle.sd_text.specs.Fields.{Fields, fields_of}
use Rattle.sd_text.specs.Reading.{◌>>=◌, number_at, word_at, all_read}
use Rattle.sd_append.specs.Text.{IsDigit, trimmed}

-- the FileIndex and the Stream of the records that follow
pub record HeaderParts : Type 0 where
  pub index : ℕ
  pub stream : ℕ

-- both are 1 or more and fit a signed field
pub record AreWithin (h : HeaderParts) : Type 0 where
  pub index_least : 1 ≤ h.index
  pub index_most : h.index ≤ most_number
  pub stream_least : 1 ≤ h.stream
  pub stream_most : h.stream ≤ most_number

-- a text without the minus that may begin it
abbrev pub without_minus : List ℕ → List ℕ
without_minus text = drop (if slice_index text 0 == 45 then 1 else 0) text

-- one to twenty digits
abbrev pub AreInfoDigits : List ℕ → Type 0
AreInfoDigits digits = (1 ≤ length digits) × (length digits ≤ 20) × All IsDigit digits

-- one to twenty digits, a minus before them allowed
abbrev pub IsInfo : List ℕ → Type 0
IsInfo word = AreInfoDigits (without_minus word)

-- the packet's text is ASCII and has three fields: the FileIndex, the Stream, and what has no effect
pub record HasHeaderForm (packet : List ℕ) (header : HeaderParts) : Type 0 where
  pub ascii : All (λ byte. byte < 128) (trimmed packet)
  pub info : List ℕ
  pub spelled : fields_of (trimmed packet) ≡ decimal header.index ∷ decimal header.stream ∷ info ∷ []
  pub within : AreWithin header
  pub is_info : IsInfo info

-- the header that three fields spell, and the last of them
unfoldable pub header_shape : Fields → Option (HeaderParts × List ℕ)
header_shape fs = do
  index ← number_at 1 most_number fs
  stream ← number_at 1 most_number index.1
  info ← word_at stream.1
  all_read (record { index = index.0; stream = stream.0 }, info.0) info.1
