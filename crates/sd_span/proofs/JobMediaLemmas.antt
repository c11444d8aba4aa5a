-- No two JobMedia texts are one: each field ends at the first blank, or at the end of its line.
use Rattle.std.proofs.Common.{◌≡◌, ◌≢◌, ◌<◌, ◌≤◌, ◌^◌, ℕ, List, [], ◌∷◌, ◌++◌, codes, arith, rules, refl, sym, ap, ap₂, subst, ◌∙◌}
use Rattle.std.specs.Prelude.{IsTrue}
use Rattle.std.specs.List.{flat_map, AllByRecursion}
use Rattle.std.specs.Fmt.{decimal}
use Rattle.std.specs.Char.{digit_value}
use Rattle.std.specs.Str.Parse.{AllDigits}
use Rattle.std.proofs.lemmas.Fmt.{decimal_injective, decimal_is_IsNumeral}
use Rattle.std.proofs.lemmas.List.{append_assoc, append_cancel_left}
use Rattle.std.proofs.lemmas.List.Elements.{recursion_from_All}
use Rattle.sd_base.specs.Name.{IsName, is_name_char}
use Rattle.sd_base.specs.declared.number.SessionKey.{SessionKey}
use Rattle.sd_span.specs.declared.span.Span.{Span}
use Rattle.sd_text.specs.Lines.{line}
use Rattle.sd_span.specs.JobMedia.{session_text, span_text, KeyFits, SpanFits, JobMediaTextsApart}

-- the byte isn't in the text
abbrev pub Lacks : ℕ → List ℕ → Type 0
Lacks c text = AllByRecursion (λ d. d ≢ c) text

-- a text up to the first of a byte, and what comes after that
cut_at : (c : ℕ) (a b x y : List ℕ) → Lacks c a → Lacks c b → a ++ (c ∷ x) ≡ b ++ (c ∷ y) → (a ≡ b) × (x ≡ y)
cut_at c [] [] x y h g e = (refl, cc)
cut_at c [] (b ∷ bs) x y h g e = absurd (g.0 (cc))
cut_at c (a ∷ more) [] x y h g e = absurd (h.0 (cc))
cut_at c (a ∷ more) (b ∷ others) x y h g e =
    let same : a ≡ b = cc in
    let rest : more ++ (c ∷ x) ≡ others ++ (c ∷ y) = cc in
    let parts = cut_at c more others x y h.1 g.1 rest in
    (ap₂ (λ d l. d ∷ l) same parts.0, parts.1)

-- a byte that is no digit isn't in a number
digits_lack : (c : ℕ) → 10 ≤ digit_value c → (ds : List ℕ) → AllDigits 10 ds → Lacks c ds
digits_lack c none [] h = tt
digits_lack c none (d ∷ ds) h = ((λ same. let small = subst (λ n. digit_value n < 10) same h.0 in omega (arith, small)), digits_lack c none ds h.1)

pub decimal_lacks : (c n : ℕ) → 10 ≤ digit_value c → n < 2 ^ 64 → Lacks c (decimal n)
decimal_lacks c n none small = digits_lack c none (decimal n) (decimal_is_IsNumeral n small).0.1

-- what is no letter of a name isn't in one
chars_lack : (c : ℕ) → (IsTrue (is_name_char c) → ⊥) → (text : List ℕ) → AllByRecursion (λ d. IsTrue (is_name_char d)) text → Lacks c text
chars_lack c none [] h = tt
chars_lack c none (d ∷ ds) h = ((λ same. none (subst (λ n. IsTrue (is_name_char n)) same h.0)), chars_lack c none ds h.1)

pub name_lacks : (c : ℕ) → (IsTrue (is_name_char c) → ⊥) → (text : List ℕ) → IsName text → Lacks c text
name_lacks c none text is = chars_lack c none text (recursion_from_All (λ c. IsTrue (is_name_char c)) text is.2)

-- a number and what comes after the byte at its end
number_apart : (c n m : ℕ) (x y : List ℕ) → 10 ≤ digit_value c → n < 2 ^ 64 → m < 2 ^ 64
    → decimal n ++ (c ∷ x) ≡ decimal m ++ (c ∷ y) → (n ≡ m) × (x ≡ y)
number_apart c n m x y none small small' e =
    let parts = cut_at c (decimal n) (decimal m) x y (decimal_lacks c n none small) (decimal_lacks c m none small') e in
    (decimal_injective n m small small' parts.0, parts.1)

pub blank_is_none : 10 ≤ digit_value 32
blank_is_none = search rules

pub newline_is_none : 10 ≤ digit_value 10
newline_is_none = search rules

-- the session's line, field by field
session_line : (key : SessionKey) (behind : List ℕ)
    → line (session_text key) ++ behind ≡ codes "session " ++ (decimal key.time ++ (32 ∷ (decimal key.id ++ (10 ∷ behind))))
session_line key behind = simp append_assoc

-- a span's line, field by field
span_line : (s : Span) (behind : List ℕ) → line (span_text s) ++ behind
    ≡ codes "span " ++ (s.volume ++ (32 ∷ (decimal s.vol_index ++ (32 ∷ (decimal s.first ++ (32 ∷ (decimal s.last
    ++ (32 ∷ (decimal s.start ++ (32 ∷ (decimal s.end ++ (10 ∷ behind))))))))))))
span_line s behind = simp append_assoc

session_apart : (key key' : SessionKey) (x y : List ℕ) → KeyFits key → KeyFits key'
    → line (session_text key) ++ x ≡ line (session_text key') ++ y → (key ≡ key') × (x ≡ y)
session_apart key key' x y fits fits' e =
    let all = append_cancel_left (codes "session ") _ _ (sym (session_line key x) ∙ e ∙ session_line key' y) in
    let time = number_apart 32 key.time key'.time _ _ blank_is_none (omega (arith, fits.time_fits)) (omega (arith, fits'.time_fits)) all in
    let id = number_apart 10 key.id key'.id x y newline_is_none (omega (arith, fits.id_fits)) (omega (arith, fits'.id_fits)) time.1 in
    let made : ℕ → ℕ → SessionKey = λ t i. record { time = t; id = i } in
    (ap₂ made time.0 id.0, id.1)

span_apart : (s t : Span) (x y : List ℕ) → SpanFits s → SpanFits t
    → line (span_text s) ++ x ≡ line (span_text t) ++ y → (s ≡ t) × (x ≡ y)
span_apart s t x y fits fits' e =
    let all = append_cancel_left (codes "span ") _ _ (sym (span_line s x) ∙ e ∙ span_line t y) in
    let volume = cut_at 32 s.volume t.volume _ _ (name_lacks 32 (λ h. cc h) s.volume fits.volume_is) (name_lacks 32 (λ h. cc h) t.volume fits'.volume_is) all in
    let index = number_apart 32 s.vol_index t.vol_index _ _ blank_is_none fits.vol_index_fits fits'.vol_index_fits volume.1 in
    let first = number_apart 32 s.first t.first _ _ blank_is_none (omega (arith, fits.first_fits)) (omega (arith, fits'.first_fits)) index.1 in
    let last = number_apart 32 s.last t.last _ _ blank_is_none (omega (arith, fits.last_fits)) (omega (arith, fits'.last_fits)) first.1 in
    let start = number_apart 32 s.start t.start _ _ blank_is_none fits.start_fits fits'.start_fits last.1 in
    let end = number_apart 10 s.end t.end x y newline_is_none fits.end_fits fits'.end_fits start.1 in (
      ap (λ v. let u : Span = record s { volume = v } in u) volume.0
          ∙ ap (λ n. let u : Span = record t { vol_index = n; first = s.first; last = s.last; start = s.start; end = s.end } in u) index.0
          ∙ ap (λ n. let u : Span = record t { first = n; last = s.last; start = s.start; end = s.end } in u) first.0
          ∙ ap (λ n. let u : Span = record t { last = n; start = s.start; end = s.end } in u) last.0
          ∙ ap (λ n. let u : Span = record t { start = n; end = s.end } in u) start.0
          ∙ ap (λ n. let u : Span = record t { end = n } in u) end.0,
      end.1,
    )

-- the lines of the spans
spans_apart : (spans spans' : List Span) → AllByRecursion SpanFits spans → AllByRecursion SpanFits spans'
    → flat_map (λ s. line (span_text s)) spans ≡ flat_map (λ s. line (span_text s)) spans' → spans ≡ spans'
spans_apart [] [] fits fits' e = refl
spans_apart [] (t ∷ ts) fits fits' e = absurd (cc (e ∙ span_line t (flat_map (λ s. line (span_text s)) ts)))
spans_apart (s ∷ ss) [] fits fits' e = absurd (cc (sym (span_line s (flat_map (λ s. line (span_text s)) ss)) ∙ e))
spans_apart (s ∷ ss) (t ∷ ts) fits fits' e =
    let own = span_apart s t _ _ fits.0 fits'.0 e in
    ap₂ (λ u us. u ∷ us) own.0 (spans_apart ss ts fits.1 fits'.1 own.1)

pub jobmedia_texts_apart : JobMediaTextsApart
jobmedia_texts_apart key key' spans spans' fits fits' all all' e =
    let own = session_apart key key' _ _ fits fits' e in
    (own.0, spans_apart spans spans' (recursion_from_All SpanFits spans all) (recursion_from_All SpanFits spans' all') own.1)
