-- The decimal text of a number, and the number that a text writes.
use Rattle.std.proofs.Common.{lit<, ◌≡◌, ◌≢◌, ◌⊎◌, ℕ, ◌^◌, ◌<◌, ◌≤◌, refl, sym, ap, subst, ◌∙◌, arith, true, leb, List, [], ◌∷◌, length, Some, None, inl, inr, Ok, Err}
use Rattle.std.specs.Prelude.{◌&&◌}
use Rattle.std.specs.Fmt.{decimal}
use Rattle.std.specs.Str.{bytes_eq}
use Rattle.std.specs.Str.Parse.{AllDigits, ParsesUnsigned, digits_value}
use Rattle.std.proofs.lemmas.Bool.{and_parts, and_from, cond-true, cond-false, false_from_ne_true, leb-true, le-leb, cases_lt}
use Rattle.std.proofs.lemmas.Option.{cond_some}
use Rattle.std.proofs.lemmas.Slice.Eq.{bytes_eq-Decides}
use Rattle.std.proofs.lemmas.Str.Parse.{IsNumeralModel, numerals_by_value, tells_digits, parse_plain, digit_at}
use Rattle.std.proofs.lemmas.Fmt.{decimal_digit, digits_decimal, digits_value-decimal, decimal-digits_value, decimal_nonempty, first_decimal}
use Rattle.std.proofs.lemmas.List.Elements.{All-from_get_or}
use Rattle.sd_text.specs.Fields.{HasNoBlank}
use Rattle.sd_text.specs.Reading.{IsPlain, is_number, number_in}

pub own : IsNumeralModel (AllDigits 10) (digits_value 10)
own = numerals_by_value (AllDigits 10) tells_digits

-- what the test of a number tells
pub record Writes (least most : ℕ) (word : List ℕ) (n : ℕ) : Type 0 where
  pub text : decimal n ≡ word
  pub least_is : least ≤ n
  pub most_is : n ≤ most

number_tells : (least most : ℕ) (word : List ℕ) → is_number least most word ≡ true → Writes least most word (digits_value 10 word)
number_tells least most word e =
    let n = digits_value 10 word in
    let all = and_parts (bytes_eq (decimal n) word && leb least n) (leb n most) e in
    let two = and_parts (bytes_eq (decimal n) word) (leb least n) all.0 in
    record {
      text = (bytes_eq-Decides (decimal n) word).0 two.0;
      least_is = leb-true least n two.1;
      most_is = leb-true n most all.1;
    }

number_told : (least most : ℕ) (word : List ℕ) → Writes least most word (digits_value 10 word) → is_number least most word ≡ true
number_told least most word w =
    let n = digits_value 10 word in
    and_from (bytes_eq (decimal n) word && leb least n) (leb n most)
    (and_from (bytes_eq (decimal n) word) (leb least n) ((bytes_eq-Decides (decimal n) word).1 w.text) (le-leb least n w.least_is)) (le-leb n most w.most_is)

-- a number that is read is written so
pub number_in_takes : (least most : ℕ) (word : List ℕ) (n : ℕ) → number_in least most word ≡ Some n → Writes least most word n
unfolding number_in
number_in_takes least most word n e =
    let parts = cond_some (is_number least most word) (digits_value 10 word) n e in
    subst (λ (m : ℕ). Writes least most word m) parts.1 (number_tells least most word parts.0)

-- and a number that is written is read
pub number_in_again : (least most n : ℕ) → n < 2 ^ 64 → least ≤ n → n ≤ most → number_in least most (decimal n) ≡ Some n
unfolding number_in
number_in_again least most n small low high =
    let value = digits_value-decimal own n small in
    let told : Writes least most (decimal n) (digits_value 10 (decimal n)) =
    subst (λ (m : ℕ). Writes least most (decimal n) m) (sym value) (record { text = refl; least_is = low; most_is = high }) in
    cond-true (is_number least most (decimal n)) (Some (digits_value 10 (decimal n))) None (number_told least most (decimal n) told) ∙ ap Some value

-- what the code tests
pub number_in_value : (least most : ℕ) (word : List ℕ) (n : ℕ) → n ≡ digits_value 10 word → Writes least most word n → number_in least most word ≡ Some n
unfolding number_in
number_in_value least most word n same w =
    let told = number_told least most word (subst (λ (m : ℕ). Writes least most word m) same w) in
    cond-true (is_number least most word) (Some (digits_value 10 word)) None told ∙ ap Some (sym same)

pub number_in_none : (least most : ℕ) (word : List ℕ) → (Writes least most word (digits_value 10 word) → ⊥) → number_in least most word ≡ None
unfolding number_in
number_in_none least most word none =
    cond-false (is_number least most word) (Some (digits_value 10 word)) None
    (false_from_ne_true (is_number least most word) (λ e. none (number_tells least most word e)))

-- a decimal text is plain
pub IsPlain-decimal : (n : ℕ) → n < 2 ^ 64 → IsPlain (decimal n)
IsPlain-decimal n small = elim (cases_lt 0 n) [
  | inl more ↦ let first = first_decimal n more small in ((λ plus. absurd (omega arith)), (λ zero. absurd (omega arith)))
  | inr none ↦
      let zero : n ≡ 0 = omega arith in
      let text : decimal n ≡ 48 ∷ [] = ap decimal zero ∙ decimal_digit 0 (lit< tt) in
      subst IsPlain (sym text) ((λ plus. absurd (omega arith)), (λ first. refl))
]

-- what the code refuses is no number within the limits, and what it answers is
pub refused_sign : (least most : ℕ) (word : List ℕ) → most < 2 ^ 64 → (IsPlain word → ⊥) → number_in least most word ≡ None
refused_sign least most word small sign =
    number_in_none least most word (λ w. sign (subst IsPlain w.text (IsPlain-decimal (digits_value 10 word) (omega (arith, w.most_is)))))

pub refused_text : {E : Type 0} (least most : ℕ) (word : List ℕ) (e : E) → most < 2 ^ 64 → IsPlain word → ParsesUnsigned 64 10 word (Err e) → number_in least most word ≡ None
refused_text least most word e small plain none =
    number_in_none least most word (λ w.
    let n = digits_value 10 word in
    let fits : n < 2 ^ 64 = omega (arith, w.most_is) in
    parse_plain own 64 word (Err e) none plain.0 (subst (λ (t : List ℕ). AllDigits 10 t) w.text (digits_decimal own n fits), subst (λ (t : List ℕ). 0 < length t) w.text (decimal_nonempty n fits), fits))

pub refused_range : (E : Type 0) (least most : ℕ) (word : List ℕ) (value : ℕ) → IsPlain word → ParsesUnsigned {E = E} 64 10 word (Ok value)
    → (value < least) ⊎ (most < value) → number_in least most word ≡ None
refused_range E least most word value plain parsed out =
    let parts = parse_plain own {E = E} 64 word (Ok value) parsed plain.0 in
    number_in_none least most word (λ w. elim out [
      | inl low ↦ absurd (omega (arith, w.least_is, parts.1))
      | inr high ↦ absurd (omega (arith, w.most_is, parts.1))
    ])

pub accepted : (E : Type 0) (least most : ℕ) (word : List ℕ) (value : ℕ) → IsPlain word → ParsesUnsigned {E = E} 64 10 word (Ok value)
    → least ≤ value → value ≤ most → number_in least most word ≡ Some value
accepted E least most word value plain parsed low high =
    let parts = parse_plain own {E = E} 64 word (Ok value) parsed plain.0 in
    let text = decimal-digits_value own word parts.0.0 parts.0.1 plain.1 parts.0.2 in
    number_in_value least most word value parts.1 (record { text = ap decimal parts.1 ∙ text; least_is = low; most_is = high })

-- the text of a number holds no blank
pub decimal-plain : (n : ℕ) → n < 2 ^ 64 → HasNoBlank (decimal n)
decimal-plain n small =
    All-from_get_or (λ c. c ≢ 32) (decimal n) 0 (λ i within blank. let digit = digit_at (decimal n) i (digits_decimal own n small) within in omega arith)
