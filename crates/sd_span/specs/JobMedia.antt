-- The JobMedia text: what a client keeps of a closed session, to read it by.
use Rattle.std.specs.Prelude.{◌≡◌, ◌⊎◌, ◌<◌, ◌^◌, All, List, ◌++◌, ℕ, codes}
use Rattle.std.specs.List.{flat_map}
use Rattle.std.specs.Fmt.{decimal}
use Rattle.sd_base.specs.Name.{IsName}
use Rattle.sd_text.specs.Lines.{line}
use Rattle.sd_base.specs.declared.refusal.Refusal as base
use Rattle.sd_base.specs.declared.refusal.Refusal.TheVariants as refusals
use Rattle.sd_base.specs.declared.number.SessionKey.{SessionKey}
use Rattle.sd_span.specs.declared.span.Span.{Span}
use Rattle.sd_span.specs.declared.jobmedia.JobMediaFault.{JobMediaFault}
use Rattle.sd_span.specs.declared.jobmedia.JobMediaFault.TheVariants.{BadSpan, Memory}

-- the session's key: its time, then its id
abbrev pub session_text : SessionKey → List ℕ
session_text key = codes "session " ++ decimal key.time ++ codes " " ++ decimal key.id

-- one span: its volume, its number, the first and the last FileIndex, where it starts and where it ends
abbrev pub span_text : Span → List ℕ
span_text s =
    codes "span " ++ s.volume ++ codes " " ++ decimal s.vol_index
    ++ codes " " ++ decimal s.first ++ codes " " ++ decimal s.last
    ++ codes " " ++ decimal s.start ++ codes " " ++ decimal s.end

-- a line for the session, then one for each span
abbrev pub jobmedia_text : SessionKey → List Span → List ℕ
jobmedia_text key spans = line (session_text key) ++ flat_map (λ s. line (span_text s)) spans

-- the numbers of a key fit their fields
pub record KeyFits (key : SessionKey) : Type 0 where
  pub time_fits : key.time < 2 ^ 32
  pub id_fits : key.id < 2 ^ 32

-- the volume of a span has a name, and its numbers fit their fields
pub record SpanFits (s : Span) : Type 0 where
  pub volume_is : IsName s.volume
  pub vol_index_fits : s.vol_index < 2 ^ 64
  pub first_fits : s.first < 2 ^ 32
  pub last_fits : s.last < 2 ^ 32
  pub start_fits : s.start < 2 ^ 64
  pub end_fits : s.end < 2 ^ 64

-- the text says this session and these spans: it is their JobMedia text, but that its last newline may lack
pub record IsJobMedia (text : List ℕ) (key : SessionKey) (spans : List Span) : Type 0 where
  pub key_fits : KeyFits key
  pub spans_fit : All SpanFits spans
  pub written : (text ≡ jobmedia_text key spans) ⊎ (line text ≡ jobmedia_text key spans)

-- what the daemon answers for a fault
abbrev pub jobmedia_refusal : JobMediaFault → base.Refusal
jobmedia_refusal BadSpan = refusals.BadSpan
jobmedia_refusal Memory = refusals.Memory

-- Laws.

-- two sessions or two lists of spans never share a text
abbrev pub JobMediaTextsApart : Type 0
JobMediaTextsApart = (key key' : SessionKey) (spans spans' : List Span)
    → KeyFits key → KeyFits key' → All SpanFits spans → All SpanFits spans'
    → jobmedia_text key spans ≡ jobmedia_text key' spans' → (key ≡ key') × (spans ≡ spans')

-- no text says two sessions or two lists of spans, with the last newline or without it
abbrev pub JobMediaIsOne : Type 0
JobMediaIsOne = (text : List ℕ) (key key' : SessionKey) (spans spans' : List Span)
    → IsJobMedia text key spans → IsJobMedia text key' spans' → (key ≡ key') × (spans ≡ spans')
