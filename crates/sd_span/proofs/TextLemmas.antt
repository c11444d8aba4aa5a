-- A JobMedia text by its lines, and how far it is read.
use Rattle.std.proofs.Common.{◌≡◌, ◌≢◌, ◌⊎◌, ◌<◌, ◌^◌, ℕ, List, [], ◌∷◌, ◌++◌, length, Option, Some, None, inl, inr, arith, rules, refl, sym, ap, ap₂, subst, ◌∙◌, map}
use Rattle.std.specs.Prelude.{◌↔◌, codes, Result, Ok, Err, IfOk, IfSome, MatchOption}
use Rattle.std.specs.Result.{IsErr, IsErrAnd}
use Rattle.std.specs.List.{flat_map, AllByRecursion}
use Rattle.std.specs.Fmt.{decimal}
use Rattle.std.proofs.lemmas.List.{append_assoc, append-nil, map-append}
use Rattle.std.proofs.lemmas.List.Elements.{All-from_recursion, recursion_from_All}
use Rattle.sd_base.specs.declared.number.SessionKey.{SessionKey}
use Rattle.sd_text.specs.Fields.{Fields, joined}
use Rattle.sd_text.specs.Lines.{line, lines_of}
use Rattle.sd_text.proofs.LineLemmas.{HasNoNewline, lines_of-all, lines_of-unended, lines-make}
use Rattle.sd_span.specs.declared.span.Span.{Span}
use Rattle.sd_span.specs.declared.jobmedia.SessionSpans.{SessionSpans}
use Rattle.sd_span.specs.declared.jobmedia.JobMediaFault.{JobMediaFault}
use Rattle.sd_span.specs.declared.jobmedia.JobMediaFault.TheVariants.{BadSpan, Memory}
use Rattle.sd_span.specs.JobMedia.{session_text, span_text, jobmedia_text, KeyFits, SpanFits, IsJobMedia, JobMediaIsOne}
use Rattle.sd_span.proofs.JobMediaLemmas.{Lacks, decimal_lacks, name_lacks, newline_is_none, jobmedia_texts_apart}
use Rattle.sd_span.proofs.ReadingLemmas.{key_fields, span_fields, session_joined, span_joined}

-- No line holds a newline, and none is empty.

lacks_append : (c : ℕ) (a b : List ℕ) → Lacks c a → Lacks c b → Lacks c (a ++ b)
lacks_append c [] b h g = g
lacks_append c (x ∷ a) b h g = (h.0, lacks_append c a b h.1 g)

lacks_joined : (c : ℕ) → 32 ≢ c → (fs : Fields) → AllByRecursion (λ f. Lacks c f) fs → Lacks c (joined fs)
lacks_joined c other [] h = tt
lacks_joined c other (f ∷ []) h = h.0
lacks_joined c other (f ∷ g ∷ fs) h = lacks_append c f (32 ∷ joined (g ∷ fs)) h.0 (other, lacks_joined c other (g ∷ fs) h.1)

number_plain : (n : ℕ) → n < 2 ^ 64 → Lacks 10 (decimal n)
number_plain n small = decimal_lacks 10 n newline_is_none small

session_plain : (key : SessionKey) → KeyFits key → HasNoNewline (session_text key)
unfolding key_fields
session_plain key fits =
    subst HasNoNewline (sym (session_joined key))
    (lacks_joined 10 (omega arith) (codes "session" ∷ key_fields key)
    (search rules, (number_plain key.time (omega (arith, fits.time_fits)), (number_plain key.id (omega (arith, fits.id_fits)), tt))))

span_plain : (s : Span) → SpanFits s → HasNoNewline (span_text s)
unfolding span_fields
span_plain s fits =
    subst HasNoNewline (sym (span_joined s))
    (lacks_joined 10 (omega arith) (codes "span" ∷ span_fields s) (
      search rules,
      (
        name_lacks 10 (λ h. cc h) s.volume fits.volume_is,
        (
          number_plain s.vol_index fits.vol_index_fits,
          (
            number_plain s.first (omega (arith, fits.first_fits)),
            (
              number_plain s.last (omega (arith, fits.last_fits)),
              (number_plain s.start fits.start_fits, (number_plain s.end fits.end_fits, tt)),
            ),
          ),
        ),
      ),
    ))

spans_plain : (spans : List Span) → AllByRecursion SpanFits spans → AllByRecursion HasNoNewline (map span_text spans)
spans_plain [] fits = tt
spans_plain (s ∷ ss) fits = (span_plain s fits.0, spans_plain ss fits.1)

spans_long : (spans : List Span) → AllByRecursion (λ l. 0 < length l) (map span_text spans)
spans_long [] = tt
spans_long (s ∷ ss) = (omega arith, spans_long ss)

-- The text and its lines.

abbrev pub lines_for : SessionKey → List Span → List (List ℕ)
lines_for key spans = session_text key ∷ map span_text spans

spans_apiece : (spans : List Span) → flat_map (λ s. line (span_text s)) spans ≡ flat_map line (map span_text spans)
spans_apiece [] = refl
spans_apiece (s ∷ ss) = ap (λ (rest : List ℕ). line (span_text s) ++ rest) (spans_apiece ss)

text_apiece : (key : SessionKey) (spans : List Span) → jobmedia_text key spans ≡ flat_map line (lines_for key spans)
text_apiece key spans = ap (λ (rest : List ℕ). line (session_text key) ++ rest) (spans_apiece spans)

lines_written : (text : List ℕ) (key : SessionKey) (spans : List Span) → IsJobMedia text key spans → lines_of text ≡ lines_for key spans
lines_written text key spans is =
    let fits = recursion_from_All SpanFits spans is.spans_fit in
    let plain : AllByRecursion HasNoNewline (lines_for key spans) = (session_plain key is.key_fits, spans_plain spans fits) in
    elim is.written [
      | inl e ↦ ap lines_of (e ∙ text_apiece key spans) ∙ lines_of-all (lines_for key spans) plain
      | inr e ↦ lines_of-unended text (session_text key) (map span_text spans) plain (omega arith, spans_long spans) (e ∙ text_apiece key spans)
    ]

written_lines : (text : List ℕ) (key : SessionKey) (spans : List Span) → KeyFits key → AllByRecursion SpanFits spans → lines_of text ≡ lines_for key spans
    → IsJobMedia text key spans
written_lines text key spans fits all e =
    let same = ap (λ (ls : List (List ℕ)). flat_map line ls) e ∙ sym (text_apiece key spans) in
    record {
      key_fits = fits;
      spans_fit = All-from_recursion SpanFits spans all;
      written = elim (lines-make text) [ inl f ↦ inl (f ∙ same) | inr f ↦ inr (f ∙ same) ];
    }

pub jobmedia_is_one : JobMediaIsOne
jobmedia_is_one text key key' spans spans' is is' =
    jobmedia_texts_apart key key' spans spans' is.key_fits is'.key_fits is.spans_fit is'.spans_fit
    (text_apiece key spans ∙ ap (λ (ls : List (List ℕ)). flat_map line ls) (sym (lines_written text key spans is) ∙ lines_written text key' spans' is')
    ∙ sym (text_apiece key' spans'))

-- How far a text is read.

-- no session and no spans are in it
abbrev pub SaysNone : List ℕ → Type 0
SaysNone text = (key : SessionKey) (spans : List Span) → IsJobMedia text key spans → ⊥

-- spans that were read, the lines after them, and what is kept of the spans
pub record Taken (text : List ℕ) (key : SessionKey) (behind : List (List ℕ)) (kept : Option (List Span)) : Type 0 where
  pub done : List Span
  pub fits : AllByRecursion SpanFits done
  pub lines_are : lines_of text ≡ session_text key ∷ (map span_text done ++ behind)
  pub kept_is : IfSome kept (λ spans. spans ≡ done)

pub taken_at : (text : List ℕ) (key : SessionKey) (behind seen : List (List ℕ)) (kept known : Option (List Span)) → behind ≡ seen → kept ≡ known
    → Taken text key behind kept → Taken text key seen known
taken_at text key behind seen kept known e f t =
    subst (λ (o : Option (List Span)). Taken text key seen o) f (subst (λ (ls : List (List ℕ)). Taken text key ls kept) e t)

pub none_taken : (text first : List ℕ) (key : SessionKey) (behind : List (List ℕ)) → lines_of text ≡ first ∷ behind → first ≡ session_text key → Taken text key behind (Some [])
none_taken text first key behind e same =
    record { done = []; fits = tt; lines_are = e ∙ ap (λ (l : List ℕ). l ∷ behind) same; kept_is = refl }

fits_more : (done : List Span) (s : Span) → AllByRecursion SpanFits done → SpanFits s → AllByRecursion SpanFits (done ++ s ∷ [])
fits_more [] s all fits = (fits, tt)
fits_more (d ∷ done) s all fits = (all.0, fits_more done s all.1 fits)

kept_more : (kept after : Option (List Span)) (done : List Span) (s : Span) → IfSome kept (λ spans. spans ≡ done)
    → MatchOption kept (after ≡ None) (λ spans. (after ≡ Some (spans ++ s ∷ [])) ⊎ (after ≡ None)) → IfSome after (λ spans. spans ≡ done ++ s ∷ [])
kept_more None after done s is added = subst (λ (o : Option (List Span)). IfSome o (λ spans. spans ≡ done ++ s ∷ [])) (sym added) tt
kept_more (Some spans) after done s is (inl e) =
    subst (λ (o : Option (List Span)). IfSome o (λ all. all ≡ done ++ s ∷ [])) (sym e) (ap (λ (l : List Span). l ++ s ∷ []) is)
kept_more (Some spans) after done s is (inr e) = subst (λ (o : Option (List Span)). IfSome o (λ all. all ≡ done ++ s ∷ [])) (sym e) tt

pub one_taken : (text : List ℕ) (key : SessionKey) (l : List ℕ) (behind : List (List ℕ)) (kept after : Option (List Span)) (s : Span) → Taken text key (l ∷ behind) kept
    → SpanFits s → l ≡ span_text s → MatchOption kept (after ≡ None) (λ spans. (after ≡ Some (spans ++ s ∷ [])) ⊎ (after ≡ None)) → Taken text key behind after
one_taken text key l behind kept after s t fits e added = record {
  done = t.done ++ s ∷ [];
  fits = fits_more t.done s t.fits fits;
  lines_are = t.lines_are ∙ ap (λ (ls : List (List ℕ)). session_text key ∷ ls)
      (ap (λ (m : List ℕ). map span_text t.done ++ m ∷ behind) e ∙ sym (append_assoc (map span_text t.done) (span_text s ∷ []) behind)
      ∙ ap (λ (ls : List (List ℕ)). ls ++ behind) (sym (map-append span_text t.done (s ∷ []))));
  kept_is = kept_more kept after t.done s t.kept_is added;
}

-- a line that is none of a span's
unread_line : (spans done : List Span) (l : List ℕ) (behind : List (List ℕ)) → AllByRecursion SpanFits spans
    → ((s : Span) → SpanFits s → l ≡ span_text s → ⊥) → map span_text spans ≡ map span_text done ++ l ∷ behind → ⊥
unread_line [] [] l behind fits none e = cc e
unread_line [] (d ∷ done) l behind fits none e = cc e
unread_line (s ∷ ss) [] l behind fits none e = none s fits.0 (cc e)
unread_line (s ∷ ss) (d ∷ done) l behind fits none e = unread_line ss done l behind fits.1 none (cc e)

same_rest : (a b : List ℕ) (ls ms : List (List ℕ)) → a ∷ ls ≡ b ∷ ms → (a ≡ b) × (ls ≡ ms)
same_rest a b ls ms e = (cc e, cc e)

pub empty_says_none : (text : List ℕ) → lines_of text ≡ [] → SaysNone text
empty_says_none text e key spans is = cc (sym e ∙ lines_written text key spans is)

pub first_says_none : (text first : List ℕ) (behind : List (List ℕ)) → lines_of text ≡ first ∷ behind
    → ((key : SessionKey) → KeyFits key → first ≡ session_text key → ⊥) → SaysNone text
first_says_none text first behind e none key spans is =
    none key is.key_fits (same_rest first (session_text key) behind (map span_text spans) (sym e ∙ lines_written text key spans is)).0

pub line_says_none : (text : List ℕ) (key : SessionKey) (l : List ℕ) (behind : List (List ℕ)) (kept : Option (List Span)) → Taken text key (l ∷ behind) kept
    → ((s : Span) → SpanFits s → l ≡ span_text s → ⊥) → SaysNone text
line_says_none text key l behind kept t none key' spans is =
    unread_line spans t.done l behind (recursion_from_All SpanFits spans is.spans_fit) none
    (same_rest (session_text key') (session_text key) (map span_text spans) (map span_text t.done ++ l ∷ behind) (sym (lines_written text key' spans is) ∙ t.lines_are)).1

-- if no line is left, the text says what was read
pub all_taken : (text : List ℕ) (key : SessionKey) (kept : Option (List Span)) → KeyFits key → (t : Taken text key [] kept) → IsJobMedia text key t.done
all_taken text key kept fits t =
    written_lines text key t.done fits t.fits (t.lines_are ∙ ap (λ (ls : List (List ℕ)). session_text key ∷ ls) (append-nil (map span_text t.done)))

-- What the answer tells.

pub record Told (text : List ℕ) (result : Result SessionSpans JobMediaFault) : Type 0 where
  pub ok : IfOk result (λ read. IsJobMedia text read.key read.spans)
  pub found : (key : SessionKey) (spans : List Span) → IsJobMedia text key spans → (result ≡ Ok (record { key = key; spans = spans })) ⊎ (result ≡ Err Memory)
  pub bad_span : (result ≡ Err BadSpan) ↔ SaysNone text

pub none_told : (text : List ℕ) → SaysNone text → Told text (Err BadSpan)
none_told text none = record {
  ok = tt;
  found = λ key spans is. absurd (none key spans is);
  bad_span = (λ e. none, λ again. refl);
}

pub refused_told : (text : List ℕ) (result : Result SessionSpans JobMediaFault) → IsErr result × IsErrAnd result (λ fault. fault ≡ BadSpan) → SaysNone text → Told text result
refused_told text (Ok read) refused none = absurd refused.1
refused_told text (Err fault) refused none = subst (λ (f : JobMediaFault). Told text (Err f)) (sym refused.1) (none_told text none)

pub memory_told : (text : List ℕ) (key : SessionKey) (kept : Option (List Span)) → KeyFits key → Taken text key [] kept → Told text (Err Memory)
memory_told text key kept fits t = record {
  ok = tt;
  found = λ key' spans is. inr refl;
  bad_span = (λ e. absurd (cc e), λ none. absurd (none key t.done (all_taken text key kept fits t)));
}

abbrev read_as : SessionKey → List Span → SessionSpans
read_as key spans = record { key = key; spans = spans }

pub read_told : (text : List ℕ) (key : SessionKey) (spans : List Span) → KeyFits key → Taken text key [] (Some spans) → Told text (Ok (record { key = key; spans = spans }))
read_told text key spans fits t =
    let is : IsJobMedia text key spans = subst (λ (ss : List Span). IsJobMedia text key ss) (sym t.kept_is) (all_taken text key (Some spans) fits t) in
    record {
      ok = is;
      found = λ key' spans' is'.
          let one = jobmedia_is_one text key key' spans spans' is is' in
          inl (ap₂ (λ k ss. Ok (read_as k ss)) one.0 one.1);
      bad_span = (λ e. absurd (cc e), λ none. absurd (none key spans is));
    }
