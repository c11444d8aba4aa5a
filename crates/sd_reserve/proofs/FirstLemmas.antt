-- The first candidate of a list, found by going through it from the front.
use Rattle.std.proofs.Common.{◌≡◌, inl, inr, ℕ, ◌+◌, ◌≤◌, ◌<◌, List, length, Option, Some, None, MatchOption, IfSome, slice_get, sym, ap, subst, ◌∙◌, arith}
use Rattle.std.proofs.lemmas.Bool.{cases_lt}
use Rattle.std.proofs.lemmas.Option.{slice_get_within}
use Rattle.sd_base.specs.Choice.{FirstOf, NoneOf}
use Rattle.sd_base.proofs.ChoiceLemmas.{NoneBelow, same_some, none_more, none_all}
use Rattle.sd_reserve.specs.Better.{IsBetter}

-- at this place is the first candidate of those before place `n`
pub record FirstBelow {A : Type 0} (P : A → Type 0) (R : A → A → Type 0) (xs : List A) (n place : ℕ) : Type 0 where
  pub within : place < n
  pub first : A
  pub there : slice_get xs place ≡ Some first
  pub is_candidate : P first
  pub before : (other : ℕ) (x : A) → other < place → slice_get xs other ≡ Some x → P x → R first x
  pub behind : (other : ℕ) (x : A) → place < other → other < n → slice_get xs other ≡ Some x → P x → R x first → ⊥

-- the best so far, if any element so far is a candidate
abbrev pub BestBelow : {A : Type 0} → (A → Type 0) → (A → A → Type 0) → List A → ℕ → Option ℕ → Type 0
BestBelow P R xs n best = MatchOption best (NoneBelow P xs n) (FirstBelow P R xs n)

-- one comes before the other, and the other not before a third, or the third after it
pub record IsOrder {A : Type 0} (R : A → A → Type 0) : Type 0 where
  pub trans : (x y z : A) → R x y → R y z → R x z
  pub past : (x y z : A) → R x y → (R z y → ⊥) → R x z

pub first_more : {A : Type 0} (P : A → Type 0) (R : A → A → Type 0) (xs : List A) (n place : ℕ) (x : A)
    → FirstBelow P R xs n place → slice_get xs n ≡ Some x → ((first : A) → slice_get xs place ≡ Some first → P x → R x first → ⊥)
    → FirstBelow P R xs (n + 1) place
first_more P R xs n place x f there never = record {
  within = let w = f.within in omega arith;
  first = f.first;
  there = f.there;
  is_candidate = f.is_candidate;
  before = f.before;
  behind = λ other y past below at is r. elim (cases_lt other n) [
    | inl lt ↦ f.behind other y past lt at is r
    | inr le ↦ (let same : other ≡ n = omega arith in
        let e : y ≡ x = same_some (sym at ∙ ap (slice_get xs) same ∙ there) in
        never f.first f.there (subst P e is) (subst (λ z. R z f.first) e r))
  ];
}

-- no candidate is at the next place: the best stays
pub best_stays : {A : Type 0} (P : A → Type 0) (R : A → A → Type 0) (xs : List A) (n : ℕ) (best : Option ℕ) (x : A)
    → BestBelow P R xs n best → slice_get xs n ≡ Some x → (P x → ⊥) → BestBelow P R xs (n + 1) best
best_stays P R xs n None x b there never = none_more P xs n x b there never
best_stays P R xs n (Some place) x b there never = first_more P R xs n place x b there (λ first at is r. never is)

-- the candidate at the next place is the first one, or comes before the best
new_first : {A : Type 0} (P : A → Type 0) (R : A → A → Type 0) (xs : List A) (n : ℕ) (x : A)
    → slice_get xs n ≡ Some x → P x → ((other : ℕ) (y : A) → other < n → slice_get xs other ≡ Some y → P y → R x y)
    → FirstBelow P R xs (n + 1) n
new_first P R xs n x there is before = record {
  within = omega arith;
  first = x;
  there = there;
  is_candidate = is;
  before = before;
  behind = λ other y past below at is r. absurd (omega arith);
}

-- the better of the best so far and a new candidate is the best
pub best_changes : {A : Type 0} (P : A → Type 0) (R : A → A → Type 0) (xs : List A) (n : ℕ) (best : Option ℕ) (better : ℕ) (x : A)
    → IsOrder R → BestBelow P R xs n best → slice_get xs n ≡ Some x → P x → IsBetter R xs best n better
    → FirstBelow P R xs (n + 1) better
best_changes P R xs n None better x order b there is same =
    subst (FirstBelow P R xs (n + 1)) (sym same) (new_first P R xs n x there is (λ other y below at is. absurd (b other y below at is)))
best_changes P R xs n (Some place) better x order b there is (x', y', at, at', inl (same, r)) =
    let ex : x' ≡ x = same_some (sym at ∙ there) in
    let ey : y' ≡ b.first = same_some (sym at' ∙ b.there) in
    let precedes : R x b.first = subst (λ z. R z b.first) ex (subst (R x') ey r) in
    subst (FirstBelow P R xs (n + 1)) (sym same)
    (new_first P R xs n x there is (λ other y below at'' is''. elim (cases_lt other place) [
      | inl lt ↦ order.trans x b.first y precedes (b.before other y lt at'' is'')
      | inr le ↦ (elim (cases_lt place other) [
        | inl past ↦ order.past x b.first y precedes (b.behind other y past below at'' is'')
        | inr here ↦ (let e : other ≡ place = omega arith in
            let own : b.first ≡ y = same_some (sym b.there ∙ ap (slice_get xs) (sym e) ∙ at'') in
            subst (R x) own precedes)
      ])
    ]))
best_changes P R xs n (Some place) better x order b there is (x', y', at, at', inr (same, never)) =
    let ex : x' ≡ x = same_some (sym at ∙ there) in
    subst (FirstBelow P R xs (n + 1)) (sym same)
    (first_more P R xs n place x b there (λ first at'' is' r.
    let e : first ≡ y' = same_some (sym at'' ∙ at') in
    never (subst (λ z. R z y') (sym ex) (subst (R x) e r))))

-- the best of the whole list is the first of its candidates
pub best_all : {A : Type 0} (P : A → Type 0) (R : A → A → Type 0) (xs : List A) (n : ℕ) (best : Option ℕ)
    → length xs ≤ n → BestBelow P R xs n best → MatchOption best (NoneOf P xs) (FirstOf P R xs)
best_all P R xs n None all b = none_all P xs n all b
best_all P R xs n (Some place) all b = record {
  first = b.first;
  there = b.there;
  is_candidate = b.is_candidate;
  before = b.before;
  behind = λ other x past at is r. let in_list = slice_get_within xs other x at in b.behind other x past (omega arith) at is r;
}

pub best_within : {A : Type 0} (P : A → Type 0) (R : A → A → Type 0) (xs : List A) (n : ℕ) (best : Option ℕ)
    → n ≤ length xs → BestBelow P R xs n best → IfSome best (λ place. place < length xs)
best_within P R xs n None fits b = tt
best_within P R xs n (Some place) fits b = let w = b.within in omega arith
