-- What the fields of a line of a JobMedia text spell that are read one after another; apart from how they are written.
use Rattle.std.specs.Prelude.{◌≡◌, ℕ, Option, Some, None, Result, IfOk, MatchResult}
use Rattle.sd_base.specs.Name.{IsName}
use Rattle.sd_base.specs.declared.number.SessionKey.{SessionKey}
use Rattle.sd_text.specs.declared.words.BadField.{BadField}
use Rattle.sd_text.specs.Fields.{Fields}
use Rattle.sd_text.specs.Reading.{◌>>=◌, number_at, word_at, only_number}
use Rattle.sd_span.specs.declared.span.Span.{Span}

-- the greatest number of 32 bits
abbrev pub most_u32 : ℕ
most_u32 = 4294967295

-- the greatest number of 64 bits
abbrev pub most_u64 : ℕ
most_u64 = 18446744073709551615

-- the session that the fields after `session` spell
unfoldable pub key_shape : Fields → Option SessionKey
key_shape fs = do
  time ← number_at 0 most_u32 fs
  id ← only_number 0 most_u32 time.1
  Some (record { time = time.0; id = id })

-- the span that the fields after `span` spell, whatever its volume is called
unfoldable pub span_shape : Fields → Option Span
span_shape fs = do
  volume ← word_at fs
  vol_index ← number_at 0 most_u64 volume.1
  first ← number_at 0 most_u32 vol_index.1
  last ← number_at 0 most_u32 first.1
  start ← number_at 0 most_u64 last.1
  end ← only_number 0 most_u64 start.1
  Some (record { volume = volume.0; vol_index = vol_index.0; first = first.0; last = last.0; start = start.0; end = end })

-- the span whose shape was read, if its volume has a name
abbrev pub GivesSpan : Result Span BadField → Option Span → Type 0
GivesSpan result None = IfOk result (λ _. ⊥)
GivesSpan result (Some span) =
    MatchResult result (λ found. (found ≡ span) × IsName span.volume) (λ _. IsName span.volume → ⊥)
