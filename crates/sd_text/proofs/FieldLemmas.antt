-- The fields of a text: the parts between its blanks.
use Rattle.std.proofs.Common.{◌≡◌, ◌≢◌, ℕ, suc, ◌+◌, ◌<◌, refl, sym, ap, ◌∙◌, arith, true, false, cond, List, [], ◌∷◌, ◌++◌, length}
use Rattle.std.specs.Prelude.{All, not}
use Rattle.std.specs.List.{position_or_len, before_first, after_first, onto_first, AllByRecursion}
use Rattle.std.proofs.lemmas.Bool.{ne_eqb, eqb-false}
use Rattle.std.proofs.lemmas.List.Elements.{All-nil, All-cons, All-weaker}
use Rattle.std.proofs.lemmas.List.Splits.{slice_split_first, slice_split_none, slice_split_at, length-slice_split, join_with_byte-slice_split}
use Rattle.sd_text.specs.Fields.{Fields, is_blank, fields_of, joined, HasNoBlank}

-- there is a field, be it empty
pub fields_of-some : (text : List ℕ) → fields_of text ≢ []
fields_of-some text none = let long = length-slice_split is_blank text in absurd (omega (arith, ap length none))

-- a text without a blank is its one field
pub fields_of-none : (text : List ℕ) → position_or_len is_blank text ≡ length text → fields_of text ≡ text ∷ []
fields_of-none [] e = refl
fields_of-none (c ∷ text) e = elim (is_blank c) as (λ b. cond (not b) (1 + position_or_len is_blank text) 0 ≡ suc (length text)
    → cond b ([] ∷ fields_of text) (onto_first c (fields_of text)) ≡ (c ∷ text) ∷ []) [
      | true ↦ λ wrong. absurd (omega arith)
      | false ↦ λ same. ap (onto_first c) (fields_of-none text (omega arith))
    ] e

-- a text with a blank is its first field and the fields of what comes after the blank
pub fields_of-first : (text field behind : List ℕ) → field ≡ before_first is_blank text → behind ≡ after_first is_blank text
    → position_or_len is_blank text < length text → fields_of text ≡ field ∷ fields_of behind
fields_of-first text field behind before after within =
    slice_split_first is_blank text 0 within ∙ ap (λ f. f ∷ fields_of (after_first is_blank text)) (sym before)
    ∙ ap (λ b. field ∷ fields_of b) (sym after)

-- the fields make the text again
pub joined-fields_of : (text : List ℕ) → joined (fields_of text) ≡ text
joined-fields_of text = join_with_byte-slice_split 32 text

-- no field holds a blank
onto_first-plain : (c : ℕ) (fs : Fields) → c ≢ 32 → AllByRecursion HasNoBlank fs → AllByRecursion HasNoBlank (onto_first c fs)
onto_first-plain c [] other plain = (All-cons (λ b. b ≢ 32) c [] other (All-nil (λ b. b ≢ 32)), tt)
onto_first-plain c (f ∷ fs) other plain = (All-cons (λ b. b ≢ 32) c f other plain.0, plain.1)

pub fields_of-plain : (text : List ℕ) → AllByRecursion HasNoBlank (fields_of text)
fields_of-plain [] = (All-nil (λ b. b ≢ 32), tt)
fields_of-plain (c ∷ text) = elim (is_blank c) as (λ b. is_blank c ≡ b → AllByRecursion HasNoBlank (cond b ([] ∷ fields_of text) (onto_first c (fields_of text)))) [
  | true ↦ λ e. (All-nil (λ b. b ≢ 32), fields_of-plain text)
  | false ↦ λ e. onto_first-plain c (fields_of text) (eqb-false c 32 e) (fields_of-plain text)
] refl

passes_not : (text : List ℕ) → HasNoBlank text → All (λ b. is_blank b ≡ false) text
passes_not text plain = All-weaker (λ b. b ≢ 32) (λ b. is_blank b ≡ false) (λ b other. ne_eqb b 32 other) text plain

-- fields without blanks, joined, have these fields
pub fields_of-joined : (f : List ℕ) (fs : Fields) → AllByRecursion HasNoBlank (f ∷ fs) → fields_of (joined (f ∷ fs)) ≡ f ∷ fs
fields_of-joined f [] plain = slice_split_none is_blank f (passes_not f plain.0)
fields_of-joined f (g ∷ fs) plain =
    slice_split_at is_blank f 32 (joined (g ∷ fs)) (passes_not f plain.0) refl ∙ ap (λ rest. f ∷ rest) (fields_of-joined g fs plain.1)

-- a field without blanks and, after a blank, a text that may hold some have that field and the fields of the text
pub fields_of-behind : (f : List ℕ) (text : List ℕ) → HasNoBlank f → fields_of (f ++ 32 ∷ text) ≡ f ∷ fields_of text
fields_of-behind f text plain = slice_split_at is_blank f 32 text (passes_not f plain) refl
