-- A JobMedia text is ASCII.
use Rattle.std.proofs.Common.{◌≡◌, ◌<◌, ◌^◌, ℕ, List, [], ◌∷◌, ◌++◌, length, codes, arith, rules, inl, inr, refl, sym, subst}
use Rattle.std.specs.Prelude.{◌⊎◌, All, IsTrue}
use Rattle.std.specs.List.{flat_map, AllByRecursion}
use Rattle.std.specs.Fmt.{decimal}
use Rattle.std.specs.Str.{IsAscii, IsUtf8}
use Rattle.std.proofs.lemmas.Fmt.{IsAscii-decimal}
use Rattle.std.proofs.lemmas.List.{take_at}
use Rattle.std.proofs.lemmas.List.Elements.{recursion_from_All}
use Rattle.std.proofs.lemmas.Str.{IsAscii-append, IsAscii-take, IsUtf8-from_ascii}
use Rattle.std.proofs.lemmas.Str.Ascii.{IsAscii-from_all}
use Rattle.sd_base.specs.Name.{IsName, is_name_char}
use Rattle.sd_base.specs.declared.number.SessionKey.{SessionKey}
use Rattle.sd_span.specs.JobMedia.{IsJobMedia, KeyFits, SpanFits, jobmedia_text, session_text, span_text}
use Rattle.sd_span.specs.declared.span.Span.{Span}
use Rattle.sd_text.specs.Lines.{line}

name_char-ascii : (c : ℕ) → IsTrue (is_name_char c) → c < 128
name_char-ascii c is = search rules

name-ascii : (text : List ℕ) → IsName text → IsAscii text
name-ascii text is = IsAscii-from_all text (λ i c here. name_char-ascii _ (is.2 i c here))

blank-ascii : IsAscii (codes " ")
blank-ascii = search rules

-- a text, a blank and a number
number-ascii : (text : List ℕ) (n : ℕ) → IsAscii text → n < 2 ^ 64 → IsAscii (text ++ codes " " ++ decimal n)
number-ascii text n ascii small = IsAscii-append _ _ (IsAscii-append _ _ ascii blank-ascii) (IsAscii-decimal n small)

session-ascii : (key : SessionKey) → KeyFits key → IsAscii (session_text key)
session-ascii key fits =
    number-ascii (codes "session " ++ decimal key.time) key.id (IsAscii-append (codes "session ") (decimal key.time) (search rules) (IsAscii-decimal key.time (omega (arith, fits.time_fits))))
    (omega (arith, fits.id_fits))

span-ascii : (s : Span) → SpanFits s → IsAscii (span_text s)
span-ascii s fits =
    let volume : List ℕ = codes "span " ++ s.volume in
    let vol_index : List ℕ = volume ++ codes " " ++ decimal s.vol_index in
    let first : List ℕ = vol_index ++ codes " " ++ decimal s.first in
    let last : List ℕ = first ++ codes " " ++ decimal s.last in
    let start : List ℕ = last ++ codes " " ++ decimal s.start in
    number-ascii start s.end
    (number-ascii last s.start
    (number-ascii first s.last
    (number-ascii vol_index s.first
    (number-ascii volume s.vol_index (IsAscii-append (codes "span ") s.volume (search rules) (name-ascii s.volume fits.volume_is)) fits.vol_index_fits)
    (omega (arith, fits.first_fits)))
    (omega (arith, fits.last_fits)))
    fits.start_fits)
    fits.end_fits

line-ascii : (text : List ℕ) → IsAscii text → IsAscii (line text)
line-ascii text ascii = IsAscii-append text (codes "\n") ascii (search rules)

spans-ascii : (spans : List Span) → AllByRecursion SpanFits spans → IsAscii (flat_map (λ s. line (span_text s)) spans)
spans-ascii [] fit = search rules
spans-ascii (s ∷ spans) fit =
    IsAscii-append (line (span_text s)) (flat_map (λ t. line (span_text t)) spans) (line-ascii (span_text s) (span-ascii s fit.0)) (spans-ascii spans fit.1)

jobmedia_text-ascii : (key : SessionKey) (spans : List Span) → KeyFits key → All SpanFits spans → IsAscii (jobmedia_text key spans)
jobmedia_text-ascii key spans fits all =
    IsAscii-append (line (session_text key)) (flat_map (λ s. line (span_text s)) spans) (line-ascii (session_text key) (session-ascii key fits))
    (spans-ascii spans (recursion_from_All SpanFits spans all))

unended-ascii : (text : List ℕ) → IsAscii (line text) → IsAscii text
unended-ascii text ascii = subst IsAscii (take_at text (codes "\n") (length text) refl) (IsAscii-take (line text) (length text) ascii)

written-ascii : (text whole : List ℕ) → IsAscii whole → (text ≡ whole) ⊎ (line text ≡ whole) → IsAscii text
written-ascii text whole ascii (inl is) = subst IsAscii (sym is) ascii
written-ascii text whole ascii (inr is) = unended-ascii text (subst IsAscii (sym is) ascii)

pub jobmedia-utf8 : (text : List ℕ) (key : SessionKey) (spans : List Span) → IsJobMedia text key spans → IsUtf8 text
jobmedia-utf8 text key spans is =
    IsUtf8-from_ascii text (written-ascii text (jobmedia_text key spans) (jobmedia_text-ascii key spans is.key_fits is.spans_fit) is.written)
