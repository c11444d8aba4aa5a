-- The steps that read fields: what they take is written so, and what is written so they take.
use Rattle.std.proofs.Common.{◌≡◌, ℕ, ◌^◌, ◌<◌, ◌≤◌, refl, sym, ap, subst, ◌∙◌, arith, List, [], ◌∷◌, length, Option, Some, None}
use Rattle.std.specs.Fmt.{decimal}
use Rattle.std.proofs.lemmas.Bool.{cond-true, lt-ltb, ltb-true}
use Rattle.std.proofs.lemmas.Option.{cond_some, same_Some}
use Rattle.sd_text.specs.Fields.{Fields}
use Rattle.sd_text.specs.Reading.{◌>>=◌, number_in, number_at, word_at, all_read, only_number}
use Rattle.sd_text.proofs.NumberLemmas.{number_in_takes, number_in_again}

-- the value of a step that read something
pub bind_some : {A B : Type 0} (o : Option A) (f : A → Option B) (y : B) → (o >>= f) ≡ Some y → (x : A) × (o ≡ Some x) × (f x ≡ Some y)
bind_some None f y e = absurd (cc e)
bind_some (Some x) f y e = (x, refl, e)

abbrev some : {A : Type 0} → A → Option A
some x = Some x

pub some_is : {A : Type 0} (x y : A) → some x ≡ some y → x ≡ y
some_is x y e = same_Some x y e

-- a field that is read is the first one
pub record TakesNumber (least most : ℕ) (fs : Fields) (n : ℕ) (rest : Fields) : Type 0 where
  pub fields_are : fs ≡ decimal n ∷ rest
  pub least_is : least ≤ n
  pub most_is : n ≤ most

pub number_at_takes : (least most : ℕ) (fs : Fields) (p : ℕ × Fields) → number_at least most fs ≡ Some p → TakesNumber least most fs p.0 p.1
unfolding number_at
number_at_takes least most [] p e = absurd (cc e)
number_at_takes least most (word ∷ fs) p e =
    let b = bind_some (number_in least most word) (λ n. Some (n, fs)) p e in
    let w = number_in_takes least most word b.0 b.1 in
    let made : ℕ × Fields = (b.0, fs) in
    subst (λ (q : ℕ × Fields). TakesNumber least most (word ∷ fs) q.0 q.1) (some_is made p b.2)
    (record { fields_are = ap (λ (t : List ℕ). t ∷ fs) (sym w.text); least_is = w.least_is; most_is = w.most_is })

pub number_at_again : (least most n : ℕ) (rest : Fields) → most < 2 ^ 64 → least ≤ n → n ≤ most → number_at least most (decimal n ∷ rest) ≡ Some (n, rest)
unfolding number_at
number_at_again least most n rest small low high =
    ap (λ (o : Option ℕ). o >>= λ m. Some (m, rest)) (number_in_again least most n (omega arith) low high)

pub word_at_takes : (fs : Fields) (p : List ℕ × Fields) → word_at fs ≡ Some p → (fs ≡ p.0 ∷ p.1) × (0 < length p.0)
unfolding word_at
word_at_takes [] p e = absurd (cc e)
word_at_takes (word ∷ fs) p e =
    let made : List ℕ × Fields = (word, fs) in
    let parts = cond_some (Rattle.std.specs.Prelude.nat_lt 0 (length word)) made p e in
    subst (λ (q : List ℕ × Fields). (word ∷ fs ≡ q.0 ∷ q.1) × (0 < length q.0)) parts.1 (refl, ltb-true 0 (length word) parts.0)

pub word_at_again : (word : List ℕ) (rest : Fields) → 0 < length word → word_at (word ∷ rest) ≡ Some (word, rest)
unfolding word_at
word_at_again word rest some_there = cond-true _ (Some (word, rest)) None (lt-ltb 0 (length word) some_there)

pub all_read_takes : {A : Type 0} (x y : A) (fs : Fields) → all_read x fs ≡ Some y → (fs ≡ []) × (x ≡ y)
all_read_takes x y [] e = (refl, some_is x y e)
all_read_takes x y (f ∷ fs) e = absurd (cc e)

pub only_number_takes : (least most : ℕ) (fs : Fields) (n : ℕ) → only_number least most fs ≡ Some n → TakesNumber least most fs n []
unfolding only_number
only_number_takes least most fs n e =
    let b = bind_some (number_at least most fs) (λ p. all_read p.0 p.1) n e in
    let t = number_at_takes least most fs b.0 b.1 in
    let all = all_read_takes b.0.0 n b.0.1 b.2 in
    let behind : TakesNumber least most fs b.0.0 [] = subst (λ (rest : Fields). TakesNumber least most fs b.0.0 rest) all.0 t in
    subst (λ (m : ℕ). TakesNumber least most fs m []) all.1 behind

pub only_number_again : (least most n : ℕ) → most < 2 ^ 64 → least ≤ n → n ≤ most → only_number least most (decimal n ∷ []) ≡ Some n
unfolding only_number
only_number_again least most n small low high =
    ap (λ (o : Option (ℕ × Fields)). o >>= λ p. all_read p.0 p.1) (number_at_again least most n [] small low high)

-- a first word that is not empty is read
pub no_word : (fs : Fields) (word : List ℕ) (rest : Fields) → word_at fs ≡ None → fs ≡ word ∷ rest → 0 < length word → ⊥
no_word fs word rest none e some_there = absurd (cc (sym none ∙ ap word_at e ∙ word_at_again word rest some_there))
