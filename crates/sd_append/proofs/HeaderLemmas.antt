-- The header of records: what is read is spelled so, and what is spelled so is read.
use Rattle.std.proofs.Common.{◌≡◌, ℕ, ◌<◌, refl, sym, ap, subst, ◌∙◌, arith, lit<, List, [], ◌∷◌, length, Some}
use Rattle.std.specs.Prelude.{All}
use Rattle.std.specs.Fmt.{decimal}
use Rattle.sd_base.specs.Limits.{most_number}
use Rattle.sd_text.specs.Fields.{Fields, fields_of}
use Rattle.sd_text.specs.Reading.{◌>>=◌, number_at, word_at, all_read}
use Rattle.sd_text.proofs.ReadingLemmas.{bind_some, some_is, number_at_takes, number_at_again, word_at_takes, word_at_again, all_read_takes}
use Rattle.sd_append.specs.Text.{trimmed}
use Rattle.sd_append.specs.Header.{HeaderParts, AreWithin, IsInfo, HasHeaderForm, header_shape}

-- three fields of a header
record Spells (fs : Fields) (header : HeaderParts) (info : List ℕ) : Type 0 where
  fields_are : fs ≡ decimal header.index ∷ decimal header.stream ∷ info ∷ []
  within : AreWithin header

shape_takes : (fs : Fields) (p : HeaderParts × List ℕ) → header_shape fs ≡ Some p → Spells fs p.0 p.1
unfolding header_shape
shape_takes fs p e =
    let a = bind_some (number_at 1 most_number fs) (λ index. number_at 1 most_number index.1 >>= λ stream. word_at stream.1 >>= λ info.
    all_read (record { index = index.0; stream = stream.0 }, info.0) info.1) p e in
    let b = bind_some (number_at 1 most_number a.0.1) (λ stream. word_at stream.1 >>= λ info. all_read (record { index = a.0.0; stream = stream.0 }, info.0) info.1) p a.2 in
    let w = bind_some (word_at b.0.1) (λ info. all_read (record { index = a.0.0; stream = b.0.0 }, info.0) info.1) p b.2 in
    let made : HeaderParts × List ℕ = (record { index = a.0.0; stream = b.0.0 }, w.0.0) in
    let all = all_read_takes made p w.0.1 w.2 in
    let index = number_at_takes 1 most_number fs a.0 a.1 in
    let stream = number_at_takes 1 most_number a.0.1 b.0 b.1 in
    let info = word_at_takes b.0.1 w.0 w.1 in
    subst (λ (q : HeaderParts × List ℕ). Spells fs q.0 q.1) all.1 (record {
      fields_are = index.fields_are ∙ ap (λ (gs : Fields). decimal a.0.0 ∷ gs) (stream.fields_are ∙ ap (λ (gs : Fields). decimal b.0.0 ∷ gs)
          (info.0 ∙ ap (λ (gs : Fields). w.0.0 ∷ gs) all.0));
      within = record { index_least = index.least_is; index_most = index.most_is; stream_least = stream.least_is; stream_most = stream.most_is };
    })

shape_again : (header : HeaderParts) (info : List ℕ) → AreWithin header → 0 < length info
    → header_shape (decimal header.index ∷ decimal header.stream ∷ info ∷ []) ≡ Some (header, info)
unfolding header_shape
shape_again header info within some_there =
    rw (
      number_at_again 1 most_number header.index (decimal header.stream ∷ info ∷ []) (lit< tt) within.index_least within.index_most,
      number_at_again 1 most_number header.stream (info ∷ []) (lit< tt) within.stream_least within.stream_most,
      word_at_again info [] some_there,
    ) refl

info_some : (info : List ℕ) → IsInfo info → 0 < length info
info_some [] is = absurd (omega (arith, is.0))
info_some (c ∷ cs) is = omega arith

-- the text of the packet is this one, in ASCII
pub record IsText (packet line : List ℕ) : Type 0 where
  pub ascii : All (λ byte. byte < 128) (trimmed packet)
  pub line_is : line ≡ trimmed packet

pub text_is : (packet trim line : List ℕ) → trim ≡ trimmed packet → (line ≡ trim) × All (λ byte. byte < 128) trim → IsText packet line
text_is packet trim line same text = record {
  ascii = subst (All (λ byte. byte < 128)) same text.1;
  line_is = text.0 ∙ same;
}

pub header_form : (packet line : List ℕ) (words : Fields) (header : HeaderParts) (info : List ℕ) → IsText packet line → words ≡ fields_of line
    → header_shape words ≡ Some (header, info) → IsInfo info → HasHeaderForm packet header
header_form packet line words header info text fields read is =
    let s = shape_takes words (header, info) read in
    record {
      ascii = text.ascii;
      info = info;
      spelled = ap fields_of (sym text.line_is) ∙ sym fields ∙ s.fields_are;
      within = s.within;
      is_info = is;
    }

-- what has the form of a header is read so
pub header_read : (packet line : List ℕ) (words : Fields) (header : HeaderParts) → IsText packet line → words ≡ fields_of line
    → (has : HasHeaderForm packet header) → header_shape words ≡ Some (header, has.info)
header_read packet line words header text fields has =
    ap header_shape (fields ∙ ap fields_of text.line_is ∙ has.spelled) ∙ shape_again header has.info has.within (info_some has.info has.is_info)

-- fields spell one header and one last word
same_parts : (words : Fields) (a b : HeaderParts × List ℕ) → header_shape words ≡ Some a → header_shape words ≡ Some b → a ≡ b
same_parts words a b x y = some_is a b (sym x ∙ y)

pub header_one : (words : Fields) (a b : HeaderParts) (info other : List ℕ) → header_shape words ≡ Some (a, info) → header_shape words ≡ Some (b, other) → Some a ≡ Some b
header_one words a b info other x y = ap (λ (p : HeaderParts × List ℕ). Some p.0) (same_parts words (a, info) (b, other) x y)

pub not_header : (words : Fields) (a b : HeaderParts) (info other : List ℕ) → header_shape words ≡ Some (a, info) → header_shape words ≡ Some (b, other) → IsInfo other → IsInfo info
not_header words a b info other x y is = subst (λ (p : HeaderParts × List ℕ). IsInfo p.1) (sym (same_parts words (a, info) (b, other) x y)) is
