-- The names of volumes, and the places where they are.
use Rattle.std.proofs.Common.{◌≡◌, ◌≢◌, ℕ, zero, suc, ◌<◌, Bool, true, false, List, [], ◌∷◌, ◌++◌, length, get_or, refl, ap, ap₂, sym, ◌∙◌, arith, subst, inl, inr}
use Rattle.std.specs.Prelude.{◌||◌, ◌==◌, AllPairs, Some, None}
use Rattle.std.specs.List.{list_any}
use Rattle.std.specs.Str.{bytes_eq}
use Rattle.std.proofs.lemmas.Bool.{cond-true, cond-false, eq-eqb, ne_eqb, or_left, or_right, cases_order, true≢false, false_from_ne_true}
use Rattle.std.proofs.lemmas.List.{get_or_append_left, get_or_default, length_push}
use Rattle.std.proofs.lemmas.List.Quantifiers.{all_pairs_push}
use Rattle.std.proofs.lemmas.Slice.Eq.{bytes_eq-Decides}
use Rattle.sd_journal.specs.Names.{name_at, with_name, IsPlaceOf}

-- Tests of each.

pub one_is : {X : Type 0} (test : X → Bool) (xs : List X) (i : ℕ) (x : X) → x ≡ get_or xs i x → i < length xs → test x ≡ true → list_any test xs ≡ true
one_is test [] i x is below is_so = absurd (omega (arith, below))
one_is test (y ∷ ys) zero x is below is_so = or_left (test y) (list_any test ys) (ap test (sym is) ∙ is_so)
one_is test (y ∷ ys) (suc i) x is below is_so = or_right (test y) (list_any test ys) (one_is test ys i x is (omega (arith, below)) is_so)

none_is : {X : Type 0} (test : X → Bool) (xs : List X) (d : X) → ((i : ℕ) → i < length xs → test (get_or xs i d) ≡ false) → list_any test xs ≡ false
none_is test [] d none = refl
none_is test (x ∷ xs) d none = ap₂ (λ a b. a || b) (none 0 (omega arith)) (none_is test xs d (λ i below. none (suc i) (omega (arith, below))))

-- Places.

-- a name is at one place
pub one_place : (names : List (List ℕ)) (a b : ℕ) → AllPairs (λ x y. x ≢ y) names → a < length names → b < length names → name_at names a ≡ name_at names b → a ≡ b
one_place names a b different below below' same = elim (cases_order a b) [
  | inl is ↦ is
  | inr (inl before) ↦ absurd (different a b [] before below' same)
  | inr (inr behind) ↦ absurd (different b a [] behind below (sym same))
]

-- a name that is somewhere was found there
pub found_is : (names : List (List ℕ)) (name : List ℕ) (place : ℕ) → AllPairs (λ x y. x ≢ y) names → (place < length names) × (name_at names place ≡ name) → IsPlaceOf names name (Some place)
found_is names name place different at = record {
  there = λ other is. subst (λ p. (p < length names) × (name_at names p ≡ name)) (some_is is) at;
  only = λ other below is. ap Some (one_place names place other different at.0 below (at.1 ∙ sym is));
}
  where
    some_is : {X : Type 0} {x y : X} → Some x ≡ Some y → x ≡ y
    some_is e = cc

-- and one that is nowhere was not found
pub none_found : (names : List (List ℕ)) (name : List ℕ) → ((place : ℕ) → place < length names → name_at names place ≡ name → ⊥) → IsPlaceOf names name None
none_found names name nowhere = record {
  there = λ place is. never is;
  only = λ place below is. absurd (nowhere place below is);
}
  where
    never : {X : Type 0} {x : X} {P : Type 0} → None ≡ Some x → P
    never e = cc

-- a test of the place is one of the name, if the name was found
pub place_is : (names : List (List ℕ)) (name : List ℕ) (found place : ℕ) → IsPlaceOf names name (Some found) → place < length names → (found == place) ≡ bytes_eq (name_at names place) name
place_is names name found place is below = from (bytes_eq (name_at names place) name) refl
  where
    from : (b : Bool) → bytes_eq (name_at names place) name ≡ b → (found == place) ≡ bytes_eq (name_at names place) name
    from true same = eq-eqb found place (some_is (is.only place below ((bytes_eq-Decides (name_at names place) name).0 same))) ∙ sym same
      where
        some_is : {X : Type 0} {x y : X} → Some x ≡ Some y → x ≡ y
        some_is e = cc
    from false other = ne_eqb found place (λ e. true≢false (sym (is_same e) ∙ other)) ∙ sym other
      where
        is_same : found ≡ place → bytes_eq (name_at names place) name ≡ true
        is_same e = (bytes_eq-Decides (name_at names place) name).1 (subst (λ p. name_at names p ≡ name) e (is.there found refl).1)

-- and no place has the name if it was not found
pub no_place_is : (names : List (List ℕ)) (name : List ℕ) (place : ℕ) → IsPlaceOf names name None → place < length names → bytes_eq (name_at names place) name ≡ false
no_place_is names name place is below =
    false_from_ne_true (bytes_eq (name_at names place) name) (λ same. never (is.only place below ((bytes_eq-Decides (name_at names place) name).0 same)))
  where
    never : None ≡ Some place → ⊥
    never e = cc

-- One name more.

-- if it was found, it is one of them
pub with_found : (names : List (List ℕ)) (name : List ℕ) (found : ℕ) → IsPlaceOf names name (Some found) → with_name name names ≡ names
with_found names name found is =
    let at = is.there found refl in
    let among : list_any (λ n. bytes_eq n name) names ≡ true =
    one_is (λ n. bytes_eq n name) names found (name_at names found) (get_or_default names found [] (name_at names found) at.0) at.0 ((bytes_eq-Decides (name_at names found) name).1 at.1) in
    cond-true (list_any (λ n. bytes_eq n name) names) names (names ++ name ∷ []) among

-- and if it was not, it is none
pub with_new : (names : List (List ℕ)) (name : List ℕ) → IsPlaceOf names name None → with_name name names ≡ names ++ name ∷ []
with_new names name is =
    cond-false (list_any (λ n. bytes_eq n name) names) names (names ++ name ∷ [])
    (none_is (λ n. bytes_eq n name) names [] (λ place below. no_place_is names name place is below))

-- so no two are one
pub different_with : (names : List (List ℕ)) (name : List ℕ) → AllPairs (λ x y. x ≢ y) names → IsPlaceOf names name None → AllPairs (λ x y. x ≢ y) (names ++ name ∷ [])
different_with names name different is =
    all_pairs_push (λ x y. x ≢ y) names name different (λ place d below same. never (is.only place below (get_or_default names place [] d below ∙ same)))
  where
    never : {place : ℕ} → None ≡ Some place → ⊥
    never e = cc

-- the names stay where they are
pub name_stays : (name : List ℕ) (names : List (List ℕ)) (place : ℕ) → place < length names → (place < length (with_name name names)) × (name_at (with_name name names) place ≡ name_at names place)
name_stays name names place below = from (list_any (λ n. bytes_eq n name) names) refl
  where
    stays : List (List ℕ) → Type 0
    stays all = (place < length all) × (name_at all place ≡ name_at names place)

    from : (b : Bool) → list_any (λ n. bytes_eq n name) names ≡ b → stays (with_name name names)
    from true is = subst stays (sym (cond-true (list_any (λ n. bytes_eq n name) names) names (names ++ name ∷ []) is)) (below, refl)
    from false is =
        let long = length_push names name in
        subst stays (sym (cond-false (list_any (λ n. bytes_eq n name) names) names (names ++ name ∷ []) is))
        (omega (arith, long, below), get_or_append_left names (name ∷ []) [] place below)
