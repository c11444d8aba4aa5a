-- The text of a packet, and the numbers in it.
use Rattle.std.proofs.Common.{◌≡◌, ◌⊎◌, ℕ, ◌^◌, ◌<◌, refl, sym, ap, ◌∙◌, arith, inl, inr, true, false, List, [], ◌∷◌, ◌++◌, Option, Some, None}
use Rattle.std.specs.Fmt.{decimal}
use Rattle.std.proofs.lemmas.Bool.{cond-true, cond-false}
use Rattle.sd_text.specs.Fields.{fields_of, joined}
use Rattle.sd_text.specs.Reading.{number_in, only_number}
use Rattle.sd_text.proofs.FieldLemmas.{fields_of-joined, joined-fields_of}
use Rattle.sd_text.proofs.NumberLemmas.{number_in_takes, number_in_again, decimal-plain}
use Rattle.sd_text.proofs.ReadingLemmas.{only_number_takes, only_number_again}
use Rattle.sd_append.specs.Text.{is_end, trimmed}

-- a newline or a zero byte ends a text, and nothing else does
pub ends : (byte : ℕ) → (byte ≡ 10) ⊎ (byte ≡ 0) → is_end byte ≡ true
ends byte (inl e) = ap is_end e
ends byte (inr e) = ap is_end e

pub trimmed-ended : (front : List ℕ) (last : ℕ) → is_end last ≡ true → trimmed (front ++ last ∷ []) ≡ front
trimmed-ended [] last e = cond-true (is_end last) _ _ e
trimmed-ended (c ∷ []) last e = ap (λ t. c ∷ t) (trimmed-ended [] last e)
trimmed-ended (c ∷ d ∷ cs) last e = ap (λ t. c ∷ t) (trimmed-ended (d ∷ cs) last e)

pub trimmed-whole : (front : List ℕ) (last : ℕ) → is_end last ≡ false → trimmed (front ++ last ∷ []) ≡ front ++ last ∷ []
trimmed-whole [] last e = cond-false (is_end last) _ _ e
trimmed-whole (c ∷ []) last e = ap (λ t. c ∷ t) (trimmed-whole [] last e)
trimmed-whole (c ∷ d ∷ cs) last e = ap (λ t. c ∷ t) (trimmed-whole (d ∷ cs) last e)

-- so it is its one field
pub fields_of-decimal : (n : ℕ) → n < 2 ^ 64 → fields_of (decimal n) ≡ decimal n ∷ []
fields_of-decimal n small = fields_of-joined (decimal n) [] (decimal-plain n small, tt)

read_none : (least most : ℕ) (text : List ℕ) (o : Option ℕ) → most < 2 ^ 64 → number_in least most text ≡ None → only_number least most (fields_of text) ≡ o → o ≡ None
read_none least most text None small none e = refl
read_none least most text (Some n) small none e =
    let t = only_number_takes least most (fields_of text) n e in
    let same : text ≡ decimal n = sym (joined-fields_of text) ∙ ap joined t.fields_are in
    absurd (cc (sym none ∙ ap (number_in least most) same ∙ number_in_again least most n (omega (arith, t.most_is)) t.least_is t.most_is))

read_some : (least most : ℕ) (text : List ℕ) (o : Option ℕ) → most < 2 ^ 64 → number_in least most text ≡ o → only_number least most (fields_of text) ≡ o
read_some least most text None small e = read_none least most text (only_number least most (fields_of text)) small e refl
read_some least most text (Some n) small e =
    let w = number_in_takes least most text n e in
    ap (λ t. only_number least most (fields_of t)) (sym w.text)
    ∙ ap (only_number least most) (fields_of-decimal n (omega (arith, w.most_is)))
    ∙ only_number_again least most n small w.least_is w.most_is

-- a number that is the only field of a text is the text's number
pub only_number-fields_of : (least most : ℕ) (text : List ℕ) → most < 2 ^ 64 → only_number least most (fields_of text) ≡ number_in least most text
only_number-fields_of least most text small = read_some least most text (number_in least most text) small refl
