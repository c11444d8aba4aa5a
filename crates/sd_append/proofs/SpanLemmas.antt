-- The line of a span: what it is read as by itself, and what it comes to in a talk.
use Rattle.std.proofs.Common.{◌≡◌, ◌⊎◌, ℕ, Bool, true, false, List, [], ◌∷◌, ◌++◌, Option, Some, Result, Err, inl, inr, arith, rules, lit<, refl, sym, ap, subst, ◌∙◌, codes, eq-eqb}
use Rattle.std.specs.Prelude.{◌&&◌, ◌==◌, nat_lt, not}
use Rattle.std.specs.Fmt.{decimal}
use Rattle.std.specs.Str.{bytes_eq}
use Rattle.std.proofs.lemmas.Bool.{and_parts}
use Rattle.std.proofs.lemmas.List.{append-nil}
use Rattle.std.proofs.lemmas.List.Elements.{All-from_recursion, All-head}
use Rattle.std.proofs.lemmas.Slice.Eq.{bytes_eq-Decides}
use Rattle.sd_base.specs.declared.number.SessionKey.{SessionKey}
use Rattle.sd_base.specs.declared.refusal.Refusal.{Refusal}
use Rattle.sd_base.specs.declared.refusal.Refusal.TheVariants as refusals
use Rattle.sd_text.specs.Lines.{line, lines_of}
use Rattle.sd_text.proofs.LineLemmas.{HasNoNewline, lines_of-ended}
use Rattle.sd_span.specs.declared.span.Span.{Span}
use Rattle.sd_span.specs.declared.jobmedia.JobMediaFault.{JobMediaFault}
use Rattle.sd_span.specs.declared.jobmedia.JobMediaFault.TheVariants.{BadSpan, Memory}
use Rattle.sd_span.specs.JobMedia.{IsJobMedia, KeyFits, SpanFits, jobmedia_refusal, session_text, span_text}
use Rattle.sd_span.proofs.JobMediaLemmas.{decimal_lacks, newline_is_none}
use Rattle.sd_span.proofs.TextLemmas.{none_taken, line_says_none, jobmedia_is_one}
use Rattle.sd_append.specs.declared.stage.Own.{Own}
use Rattle.sd_append.specs.declared.stage.TalkStage.{TalkStage}
use Rattle.sd_append.specs.declared.stage.TalkStage.TheVariants.{Spans, BadSpans}
use Rattle.sd_append.specs.Talk.{IsSpanLine, TakesSpan, is_one_line}

-- A line after that of a session.

-- there is no newline in one line
one_line-plain : (text : List ℕ) → is_one_line text ≡ true → HasNoNewline text
one_line-plain [] e = tt
one_line-plain (c ∷ text) e =
    let both = and_parts (nat_lt c 128 && not (c == 10)) (is_one_line text) e in
    let other = (and_parts (nat_lt c 128) (not (c == 10)) both.0).1 in
    ((λ same. let clash : false ≡ true = sym (ap not (eq-eqb c 10 same)) ∙ other in cc clash), one_line-plain text both.1)

plain_append : (a b : List ℕ) → HasNoNewline a → HasNoNewline b → HasNoNewline (a ++ b)
plain_append [] b h g = g
plain_append (c ∷ a) b h g = (h.0, plain_append a b h.1 g)

session_plain : (key : SessionKey) → KeyFits key → HasNoNewline (session_text key)
session_plain key fits =
    plain_append (codes "session " ++ decimal key.time ++ codes " ") (decimal key.id)
    (plain_append (codes "session " ++ decimal key.time) (codes " ")
    (plain_append (codes "session ") (decimal key.time) (search rules) (decimal_lacks 10 key.time newline_is_none (omega (arith, fits.time_fits)))) (search rules))
    (decimal_lacks 10 key.id newline_is_none (omega (arith, fits.id_fits)))

lines_alone : (key : SessionKey) (more : List ℕ) → KeyFits key → HasNoNewline more → lines_of (line (session_text key) ++ line more) ≡ session_text key ∷ more ∷ []
lines_alone key more fits plain =
    lines_of-ended (session_text key) (line more) (session_plain key fits)
    ∙ ap (λ (ls : List (List ℕ)). session_text key ∷ ls) (ap lines_of (sym (append-nil (line more))) ∙ lines_of-ended more [] plain)

-- if it says a span, the two are a text
pub span_alone : (key : SessionKey) (more : List ℕ) (s : Span) → KeyFits key → SpanFits s → more ≡ span_text s → IsJobMedia (line (session_text key) ++ line more) key (s ∷ [])
span_alone key more s fits span_fits e = record {
  key_fits = fits;
  spans_fit = All-from_recursion SpanFits (s ∷ []) (span_fits, tt);
  written = inl (ap (λ (l : List ℕ). line (session_text key) ++ l) (ap line e ∙ sym (append-nil (line (span_text s)))));
}

-- if it says none, they are no text
none_alone : (key other : SessionKey) (more : List ℕ) (spans : List Span) → KeyFits key → is_one_line more ≡ true
    → ((s : Span) → SpanFits s → more ≡ span_text s → ⊥) → IsJobMedia (line (session_text key) ++ line more) other spans → ⊥
none_alone key other more spans fits one none is =
    line_says_none (line (session_text key) ++ line more) key more [] (Some [])
    (none_taken (line (session_text key) ++ line more) (session_text key) key (more ∷ []) (lines_alone key more fits (one_line-plain more one)) refl)
    none other spans is

-- the spans of the text are those of the line
spans_alone : (key other : SessionKey) (more : List ℕ) (spans : List Span) (s : Span) → KeyFits key → SpanFits s → more ≡ span_text s
    → IsJobMedia (line (session_text key) ++ line more) other spans → s ∷ [] ≡ spans
spans_alone key other more spans s fits span_fits e is =
    (jobmedia_is_one (line (session_text key) ++ line more) key other (s ∷ []) spans (span_alone key more s fits span_fits e) is).1

-- so if the two are a text, the line says a span
pub line_alone : (key other : SessionKey) (more : List ℕ) (spans : List Span) → KeyFits key → is_one_line more ≡ true
    → IsJobMedia (line (session_text key) ++ line more) other spans → IsSpanLine more
line_alone key other more [] fits one is =
    absurd (none_alone key other more [] fits one (λ t t_fits e. cc (spans_alone key other more [] t fits t_fits e is)) is)
line_alone key other more (s ∷ []) fits one is =
    elim (bytes_eq more (span_text s)) as (λ b. bytes_eq more (span_text s) ≡ b → IsSpanLine more) [
      | true ↦ λ e. (s, All-head SpanFits s [] is.spans_fit, (bytes_eq-Decides more (span_text s)).0 e)
      | false ↦ λ e. absurd (none_alone key other more (s ∷ []) fits one (λ t t_fits t_is.
          let same : t ≡ s = cc (spans_alone key other more (s ∷ []) t fits t_fits t_is is) in
          let clash : false ≡ true = sym e ∙ (bytes_eq-Decides more (span_text s)).1 (t_is ∙ ap span_text same) in cc clash) is)
    ] refl
line_alone key other more (s ∷ t ∷ spans) fits one is =
    absurd (none_alone key other more (s ∷ t ∷ spans) fits one (λ u u_fits e. cc (spans_alone key other more (s ∷ t ∷ spans) u fits u_fits e is)) is)

-- the session after whose line one is read by itself
abbrev pub some_key : SessionKey
some_key = record { time = 1; id = 1 }

pub some_fits : KeyFits some_key
some_fits = record { time_fits = lit< tt; id_fits = lit< tt }

-- In a talk.

pub span_added : (b : Bool) (own : Option Own) (text more slice : List ℕ) (next : TalkStage) → b ≡ true → slice ≡ more → IsSpanLine slice
    → (next ≡ Spans own (text ++ line slice)) ⊎ (next ≡ BadSpans own refusals.Memory) → TakesSpan b own text more [] [] next
span_added b own text more slice next is same says (inl e) =
    subst (λ (x : Bool). TakesSpan x own text more [] [] next) (sym is)
    (inl (subst IsSpanLine same says, (refl, refl, e ∙ ap (λ (l : List ℕ). Spans own (text ++ line l)) same)))
span_added b own text more slice next is same says (inr e) =
    subst (λ (x : Bool). TakesSpan x own text more [] [] next) (sym is) (inr (inr (refl, refl, e)))

pub span_unread : {T : Type 0} (b : Bool) (own : Option Own) (text more slice : List ℕ) (r : Result T JobMediaFault) (fault : JobMediaFault) (said : Refusal)
    → b ≡ true → slice ≡ more → r ≡ Err fault → (r ≡ Err BadSpan → IsSpanLine slice → ⊥) → said ≡ jobmedia_refusal fault
    → TakesSpan b own text more [] [] (BadSpans own said)
span_unread b own text more slice r BadSpan said is same err none said_is =
    subst (λ (x : Bool). TakesSpan x own text more [] [] (BadSpans own said)) (sym is)
    (inr (inl ((λ says. none err (subst IsSpanLine (sym same) says)), (refl, refl, ap (BadSpans own) said_is))))
span_unread b own text more slice r Memory said is same err none said_is =
    subst (λ (x : Bool). TakesSpan x own text more [] [] (BadSpans own said)) (sym is)
    (inr (inr (refl, refl, ap (BadSpans own) said_is)))
