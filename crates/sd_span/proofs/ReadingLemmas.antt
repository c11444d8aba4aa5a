-- The lines of a JobMedia text: what is read as one is written so, and what is written so is read.
use Rattle.std.proofs.Common.{◌≡◌, ◌≢◌, ◌<◌, ◌^◌, ℕ, List, [], ◌∷◌, Option, Some, None, arith, rules, lit<, refl, sym, ap, subst, ◌∙◌}
use Rattle.std.specs.Prelude.{codes, Result, Ok, Err, MatchResult}
use Rattle.std.specs.Fmt.{decimal}
use Rattle.std.proofs.lemmas.List.{append_assoc}
use Rattle.std.proofs.lemmas.List.Elements.{All-from_recursion}
use Rattle.sd_base.specs.Name.{IsName}
use Rattle.sd_base.specs.declared.number.SessionKey.{SessionKey}
use Rattle.sd_text.specs.Fields.{HasNoBlank, Fields, fields_of, joined}
use Rattle.sd_text.specs.declared.words.BadField.{BadField}
use Rattle.sd_text.specs.Reading.{◌>>=◌, number_at, word_at, only_number, ReadsAll}
use Rattle.sd_text.proofs.FieldLemmas.{fields_of-joined, joined-fields_of}
use Rattle.sd_text.proofs.ReadingLemmas.{bind_some, some_is, number_at_again, number_at_takes, word_at_again, word_at_takes, only_number_again, only_number_takes}
use Rattle.sd_span.specs.declared.span.Span.{Span}
use Rattle.sd_span.specs.JobMedia.{session_text, span_text, KeyFits, SpanFits}
use Rattle.sd_span.specs.Reading.{most_u32, most_u64, key_shape, span_shape, GivesSpan}
use Rattle.sd_span.proofs.JobMediaLemmas.{Lacks, decimal_lacks, name_lacks, blank_is_none}

-- The fields of a line, and the line of these fields.

unfoldable pub key_fields : SessionKey → Fields
key_fields key = decimal key.time ∷ decimal key.id ∷ []

unfoldable pub span_fields : Span → Fields
span_fields s = s.volume ∷ decimal s.vol_index ∷ decimal s.first ∷ decimal s.last ∷ decimal s.start ∷ decimal s.end ∷ []

pub session_joined : (key : SessionKey) → session_text key ≡ joined (codes "session" ∷ key_fields key)
unfolding key_fields
session_joined key = simp append_assoc

pub span_joined : (s : Span) → span_text s ≡ joined (codes "span" ∷ span_fields s)
unfolding span_fields
span_joined s = simp append_assoc

no_blank : (text : List ℕ) → Lacks 32 text → HasNoBlank text
no_blank text lacks = All-from_recursion (λ c. c ≢ 32) text lacks

no_blank_in : (n : ℕ) → n < 2 ^ 64 → HasNoBlank (decimal n)
no_blank_in n small = no_blank (decimal n) (decimal_lacks 32 n blank_is_none small)

session_fields : (key : SessionKey) → KeyFits key → fields_of (session_text key) ≡ codes "session" ∷ key_fields key
unfolding key_fields
session_fields key fits =
    ap fields_of (session_joined key)
    ∙ fields_of-joined (codes "session") (key_fields key)
    (no_blank (codes "session") (search rules), (no_blank_in key.time (omega (arith, fits.time_fits)), (no_blank_in key.id (omega (arith, fits.id_fits)), tt)))

span_fields_of : (s : Span) → SpanFits s → fields_of (span_text s) ≡ codes "span" ∷ span_fields s
unfolding span_fields
span_fields_of s fits =
    ap fields_of (span_joined s)
    ∙ fields_of-joined (codes "span") (span_fields s) (
      no_blank (codes "span") (search rules),
      (
        no_blank s.volume (name_lacks 32 (λ h. cc h) s.volume fits.volume_is),
        (
          no_blank_in s.vol_index fits.vol_index_fits,
          (no_blank_in s.first (omega (arith, fits.first_fits)), (no_blank_in s.last (omega (arith, fits.last_fits)), (no_blank_in s.start fits.start_fits, (no_blank_in s.end fits.end_fits, tt)))),
        ),
      ),
    )

-- what is written is read
key_again : (key : SessionKey) → KeyFits key → key_shape (key_fields key) ≡ Some key
unfolding key_fields key_shape
key_again key fits =
    rw (
      number_at_again 0 most_u32 key.time (decimal key.id ∷ []) (lit< tt) (omega arith) (omega (arith, fits.time_fits)),
      only_number_again 0 most_u32 key.id (lit< tt) (omega arith) (omega (arith, fits.id_fits)),
    ) refl

span_again : (s : Span) → SpanFits s → span_shape (span_fields s) ≡ Some s
unfolding span_fields span_shape
span_again s fits =
    rw (
      word_at_again s.volume (decimal s.vol_index ∷ decimal s.first ∷ decimal s.last ∷ decimal s.start ∷ decimal s.end ∷ []) fits.volume_is.0,
      number_at_again 0 most_u64 s.vol_index (decimal s.first ∷ decimal s.last ∷ decimal s.start ∷ decimal s.end ∷ []) (lit< tt) (omega arith) (omega (arith, fits.vol_index_fits)),
      number_at_again 0 most_u32 s.first (decimal s.last ∷ decimal s.start ∷ decimal s.end ∷ []) (lit< tt) (omega arith) (omega (arith, fits.first_fits)),
      number_at_again 0 most_u32 s.last (decimal s.start ∷ decimal s.end ∷ []) (lit< tt) (omega arith) (omega (arith, fits.last_fits)),
      number_at_again 0 most_u64 s.start (decimal s.end ∷ []) (lit< tt) (omega arith) (omega (arith, fits.start_fits)),
      only_number_again 0 most_u64 s.end (lit< tt) (omega arith) (omega (arith, fits.end_fits)),
    ) refl

-- what is read is written
abbrev made_key : ℕ → ℕ → SessionKey
made_key time id = record { time = time; id = id }

abbrev made_span : List ℕ → ℕ → ℕ → ℕ → ℕ → ℕ → Span
made_span volume index first last start end =
    record { volume = volume; vol_index = index; first = first; last = last; start = start; end = end }

key_takes : (fs : Fields) (key : SessionKey) → key_shape fs ≡ Some key → KeyFits key × (fs ≡ key_fields key)
unfolding key_fields key_shape
key_takes fs key e =
    let a = bind_some (number_at 0 most_u32 fs) (λ time. only_number 0 most_u32 time.1 >>= λ id. Some (made_key time.0 id)) key e in
    let b = bind_some (only_number 0 most_u32 a.0.1) (λ id. Some (made_key a.0.0 id)) key a.2 in
    let time = number_at_takes 0 most_u32 fs a.0 a.1 in
    let id = only_number_takes 0 most_u32 a.0.1 b.0 b.1 in
    subst (λ (k : SessionKey). KeyFits k × (fs ≡ decimal k.time ∷ decimal k.id ∷ [])) (some_is (made_key a.0.0 b.0) key b.2) (
      record { time_fits = omega (arith, time.most_is); id_fits = omega (arith, id.most_is) },
      time.fields_are ∙ ap (λ (gs : Fields). decimal a.0.0 ∷ gs) id.fields_are,
    )

-- the numbers of a span fit their fields
record NumbersFit (s : Span) : Type 0 where
  vol_index_fits : s.vol_index < 2 ^ 64
  first_fits : s.first < 2 ^ 32
  last_fits : s.last < 2 ^ 32
  start_fits : s.start < 2 ^ 64
  end_fits : s.end < 2 ^ 64

span_takes : (fs : Fields) (s : Span) → span_shape fs ≡ Some s → NumbersFit s × (fs ≡ span_fields s)
unfolding span_fields span_shape
span_takes fs s e =
    let v = bind_some (word_at fs) (λ volume. number_at 0 most_u64 volume.1 >>= λ index. number_at 0 most_u32 index.1 >>= λ first. number_at 0 most_u32 first.1 >>= λ last.
    number_at 0 most_u64 last.1 >>= λ start. only_number 0 most_u64 start.1 >>= λ end. Some (made_span volume.0 index.0 first.0 last.0 start.0 end)) s e in
    let i = bind_some (number_at 0 most_u64 v.0.1) (λ index. number_at 0 most_u32 index.1 >>= λ first. number_at 0 most_u32 first.1 >>= λ last.
    number_at 0 most_u64 last.1 >>= λ start. only_number 0 most_u64 start.1 >>= λ end. Some (made_span v.0.0 index.0 first.0 last.0 start.0 end)) s v.2 in
    let f = bind_some (number_at 0 most_u32 i.0.1) (λ first. number_at 0 most_u32 first.1 >>= λ last.
    number_at 0 most_u64 last.1 >>= λ start. only_number 0 most_u64 start.1 >>= λ end. Some (made_span v.0.0 i.0.0 first.0 last.0 start.0 end)) s i.2 in
    let l = bind_some (number_at 0 most_u32 f.0.1) (λ last.
    number_at 0 most_u64 last.1 >>= λ start. only_number 0 most_u64 start.1 >>= λ end. Some (made_span v.0.0 i.0.0 f.0.0 last.0 start.0 end)) s f.2 in
    let b = bind_some (number_at 0 most_u64 l.0.1) (λ start. only_number 0 most_u64 start.1 >>= λ end. Some (made_span v.0.0 i.0.0 f.0.0 l.0.0 start.0 end)) s l.2 in
    let n = bind_some (only_number 0 most_u64 b.0.1) (λ end. Some (made_span v.0.0 i.0.0 f.0.0 l.0.0 b.0.0 end)) s b.2 in
    let volume = word_at_takes fs v.0 v.1 in
    let index = number_at_takes 0 most_u64 v.0.1 i.0 i.1 in
    let first = number_at_takes 0 most_u32 i.0.1 f.0 f.1 in
    let last = number_at_takes 0 most_u32 f.0.1 l.0 l.1 in
    let start = number_at_takes 0 most_u64 l.0.1 b.0 b.1 in
    let end = only_number_takes 0 most_u64 b.0.1 n.0 n.1 in
    subst (λ (t : Span). NumbersFit t × (fs ≡ t.volume ∷ decimal t.vol_index ∷ decimal t.first ∷ decimal t.last ∷ decimal t.start ∷ decimal t.end ∷ []))
    (some_is (made_span v.0.0 i.0.0 f.0.0 l.0.0 b.0.0 n.0) s n.2) (
      record {
        vol_index_fits = omega (arith, index.most_is);
        first_fits = omega (arith, first.most_is);
        last_fits = omega (arith, last.most_is);
        start_fits = omega (arith, start.most_is);
        end_fits = omega (arith, end.most_is);
      },
      volume.0 ∙ ap (λ (gs : Fields). v.0.0 ∷ gs) (index.fields_are ∙ ap (λ (gs : Fields). decimal i.0.0 ∷ gs) (first.fields_are ∙ ap (λ (gs : Fields). decimal f.0.0 ∷ gs)
          (last.fields_are ∙ ap (λ (gs : Fields). decimal l.0.0 ∷ gs) (start.fields_are ∙ ap (λ (gs : Fields). decimal b.0.0 ∷ gs) end.fields_are)))),
    )

-- What the two lines tell that were read.

same_behind : (word : List ℕ) (fs gs : Fields) → word ∷ fs ≡ word ∷ gs → fs ≡ gs
same_behind word fs gs e = cc e

pub session_unknown : (l : List ℕ) → ((rest : Fields) → fields_of l ≡ codes "session" ∷ rest → ⊥) → (key : SessionKey) → KeyFits key → l ≡ session_text key → ⊥
session_unknown l none key fits e = none (key_fields key) (ap fields_of e ∙ session_fields key fits)

pub span_unknown : (l : List ℕ) → ((rest : Fields) → fields_of l ≡ codes "span" ∷ rest → ⊥) → (s : Span) → SpanFits s → l ≡ span_text s → ⊥
span_unknown l none s fits e = none (span_fields s) (ap fields_of e ∙ span_fields_of s fits)

pub session_told : (l : List ℕ) (behind : Fields) (result : Result SessionKey BadField) → fields_of l ≡ codes "session" ∷ behind → ReadsAll (λ key. key) result (key_shape behind)
    → MatchResult result (λ key. KeyFits key × (l ≡ session_text key)) (λ _. (key : SessionKey) → KeyFits key → l ≡ session_text key → ⊥)
session_told l behind (Ok key) fields read =
    let takes = key_takes behind key read in
    (takes.0, sym (joined-fields_of l) ∙ ap joined (fields ∙ ap (λ (gs : Fields). codes "session" ∷ gs) takes.1) ∙ sym (session_joined key))
session_told l behind (Err fault) fields none = λ key fits e.
    let same = same_behind (codes "session") behind (key_fields key) (sym fields ∙ ap fields_of e ∙ session_fields key fits) in
    absurd (cc (sym none ∙ ap key_shape same ∙ key_again key fits))

span_written : (l : List ℕ) (behind : Fields) (s : Span) → fields_of l ≡ codes "span" ∷ behind → IsName s.volume → span_shape behind ≡ Some s → SpanFits s × (l ≡ span_text s)
span_written l behind s fields named read =
    let takes = span_takes behind s read in (
      record {
        volume_is = named;
        vol_index_fits = takes.0.vol_index_fits;
        first_fits = takes.0.first_fits;
        last_fits = takes.0.last_fits;
        start_fits = takes.0.start_fits;
        end_fits = takes.0.end_fits;
      },
      sym (joined-fields_of l) ∙ ap joined (fields ∙ ap (λ (gs : Fields). codes "span" ∷ gs) takes.1) ∙ sym (span_joined s),
    )

-- what a line that is written as a span's is read to
span_read : (l : List ℕ) (behind : Fields) (s : Span) → fields_of l ≡ codes "span" ∷ behind → SpanFits s → l ≡ span_text s → span_shape behind ≡ Some s
span_read l behind s fields fits e =
    ap span_shape (same_behind (codes "span") behind (span_fields s) (sym fields ∙ ap fields_of e ∙ span_fields_of s fits)) ∙ span_again s fits

span_given : (l : List ℕ) (behind : Fields) (result : Result Span BadField) (read : Option Span) → read ≡ span_shape behind
    → fields_of l ≡ codes "span" ∷ behind → GivesSpan result read
    → MatchResult result (λ s. SpanFits s × (l ≡ span_text s)) (λ _. (s : Span) → SpanFits s → l ≡ span_text s → ⊥)
span_given l behind (Ok s) None is fields gives = absurd gives
span_given l behind (Ok s) (Some t) is fields gives =
    subst (λ (u : Span). SpanFits u × (l ≡ span_text u)) (sym gives.0) (span_written l behind t fields gives.1 (sym is))
span_given l behind (Err fault) None is fields gives = λ s fits e. absurd (cc (is ∙ span_read l behind s fields fits e))
span_given l behind (Err fault) (Some t) is fields gives = λ s fits e.
    gives (subst (λ (u : Span). IsName u.volume) (sym (some_is t s (is ∙ span_read l behind s fields fits e))) fits.volume_is)

pub span_told : (l : List ℕ) (behind : Fields) (result : Result Span BadField) → fields_of l ≡ codes "span" ∷ behind → GivesSpan result (span_shape behind)
    → MatchResult result (λ s. SpanFits s × (l ≡ span_text s)) (λ _. (s : Span) → SpanFits s → l ≡ span_text s → ⊥)
span_told l behind result fields gives = span_given l behind result (span_shape behind) refl fields gives
