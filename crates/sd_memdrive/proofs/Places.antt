-- The first volume of a name, and what a volume put in its place or at the end does to the others.
use Rattle.std.proofs.Common.{◌≡◌, ◌≢◌, ℕ, zero, suc, Bool, true, false, ◌&&◌, inl, inr, if◌then◌else◌, is_none, IsSome, IsTrue, List, [], ◌∷◌, ◌++◌, ◌+◌, ◌<◌, length, slice_get, slice_set, get_or, drop, add-one, drop-cons, Option, Some, None, refl, ap, sym, ◌∙◌, subst, arith}
use Rattle.std.specs.Str.{bytes_eq}
use Rattle.std.proofs.lemmas.Slice.Eq.{bytes_eq-Decides}
use Rattle.sd_driver.specs.Shelf.{Held}
use Rattle.sd_driver.proofs.Names.{name_cases}
use Rattle.sd_memdrive.specs.Volumes.{Volume, volume_of, StandsFirstAt, names_differ, SameNames}

-- a name is itself
pub bytes_eq_refl : (name : List ℕ) → bytes_eq name name ≡ true
bytes_eq_refl name = (bytes_eq-Decides name name).1 refl

-- other names are not it
pub bytes_eq_other : (a b : List ℕ) → a ≢ b → bytes_eq a b ≡ false
bytes_eq_other a b other = only_false (bytes_eq a b) (λ h. other ((bytes_eq-Decides a b).0 h))
  where
    only_false : (b : Bool) → (b ≡ true → ⊥) → b ≡ false
    only_false true h = absurd (h refl)
    only_false false h = refl

-- a volume of that name is what lies under it
pub volume_of-here : (v : Volume) (vs : List Volume) (name : List ℕ) → v.name ≡ name → volume_of (v ∷ vs) name ≡ Some v.held
volume_of-here v vs name e = ap (λ b. if b then Some v.held else volume_of vs name) (ap (λ n. bytes_eq n name) e ∙ bytes_eq_refl name)

-- a volume of another name does not matter
pub volume_of-other : (v : Volume) (vs : List Volume) (name : List ℕ) → v.name ≢ name → volume_of (v ∷ vs) name ≡ volume_of vs name
volume_of-other v vs name o = ap (λ b. if b then Some v.held else volume_of vs name) (bytes_eq_other v.name name o)

pub StandsFirstAt-within : (name : List ℕ) (vs : List Volume) (place : ℕ) → StandsFirstAt name vs place → place < length vs
StandsFirstAt-within name [] place at = absurd at
StandsFirstAt-within name (v ∷ vs) zero at = omega arith
StandsFirstAt-within name (v ∷ vs) (suc place) at = let r = StandsFirstAt-within name vs place at.1 in omega arith

pub StandsFirstAt-there : (name : List ℕ) (vs : List Volume) (place : ℕ) → StandsFirstAt name vs place → IsSome (volume_of vs name)
StandsFirstAt-there name [] place at = absurd at
StandsFirstAt-there name (v ∷ vs) zero at = subst IsSome (sym (volume_of-here v vs name at)) refl
StandsFirstAt-there name (v ∷ vs) (suc place) at = subst IsSome (sym (volume_of-other v vs name at.0)) (StandsFirstAt-there name vs place at.1)

-- the volume at the place of a name has that name, and is what lies under it
pub volume_of-place : (name : List ℕ) (vs : List Volume) (place : ℕ) (v : Volume) → StandsFirstAt name vs place → slice_get vs place ≡ Some v → (v.name ≡ name) × (volume_of vs name ≡ Some v.held)
volume_of-place name [] place v at read = absurd at
volume_of-place name (w ∷ vs) zero v at read =
    let e : w ≡ v = cc in
    let n : v.name ≡ name = ap (λ (x : Volume). x.name) (sym e) ∙ at in
    (n, volume_of-here w vs name at ∙ ap (λ (x : Volume). Some x.held) e)
volume_of-place name (w ∷ vs) (suc place) v at read =
    let r = volume_of-place name vs place v at.1 read in
    (r.0, volume_of-other w vs name at.0 ∙ r.1)

-- another volume of that name in its place
pub volume_of-set : (name : List ℕ) (vs : List Volume) (place : ℕ) (v : Volume) → StandsFirstAt name vs place → v.name ≡ name → volume_of (slice_set vs place v) name ≡ Some v.held
volume_of-set name [] place v at e = absurd at
volume_of-set name (w ∷ vs) zero v at e = volume_of-here v vs name e
volume_of-set name (w ∷ vs) (suc place) v at e = volume_of-other w (slice_set vs place v) name at.0 ∙ volume_of-set name vs place v at.1 e

-- it leaves all other names
pub volume_of-set_other : (name other : List ℕ) (vs : List Volume) (place : ℕ) (v : Volume) → StandsFirstAt name vs place → v.name ≡ name → other ≢ name → volume_of (slice_set vs place v) other ≡ volume_of vs other
volume_of-set_other name other [] place v at e o = absurd at
volume_of-set_other name other (w ∷ vs) zero v at e o =
    volume_of-other v vs other (λ h. o (sym h ∙ e)) ∙ sym (volume_of-other w vs other (λ h. o (sym h ∙ at)))
volume_of-set_other name other (w ∷ vs) (suc place) v at e o =
    let r = volume_of-set_other name other vs place v at.1 e o in
    ap (λ x. if bytes_eq w.name other then Some w.held else x) r

-- one more volume at the end
pub volume_of-push : (vs : List Volume) (v : Volume) (name : List ℕ) → volume_of vs name ≡ None → v.name ≡ name → volume_of (vs ++ v ∷ []) name ≡ Some v.held
volume_of-push [] v name none e = volume_of-here v [] name e
volume_of-push (w ∷ vs) v name none e = step (bytes_eq w.name name) (λ h. volume_of-push vs v name h e) none
  where
    step : (b : Bool) → (volume_of vs name ≡ None → volume_of (vs ++ v ∷ []) name ≡ Some v.held) → (if b then Some w.held else volume_of vs name) ≡ None → (if b then Some w.held else volume_of (vs ++ v ∷ []) name) ≡ Some v.held
    step true r h = cc
    step false r h = r h

-- it leaves all other names
pub volume_of-push_other : (vs : List Volume) (v : Volume) (other : List ℕ) → v.name ≢ other → volume_of (vs ++ v ∷ []) other ≡ volume_of vs other
volume_of-push_other [] v other o = volume_of-other v [] other o
volume_of-push_other (w ∷ vs) v other o =
    let r = volume_of-push_other vs v other o in
    ap (λ x. if bytes_eq w.name other then Some w.held else x) r

-- names that differ
pub and_true : (a b : Bool) → IsTrue a → IsTrue b → IsTrue (a && b)
and_true true b p q = q
and_true false b p q = absurd (let e : false ≡ true = p in cc)

and_first : (a b : Bool) → IsTrue (a && b) → IsTrue a
and_first true b p = refl
and_first false b p = absurd (let e : false ≡ true = p in cc)

and_second : (a b : Bool) → IsTrue (a && b) → IsTrue b
and_second true b p = p
and_second false b p = absurd (let e : false ≡ true = p in cc)

none_from : (o : Option Held) → IsTrue (is_none o) → o ≡ None
none_from None p = refl
none_from (Some h) p = absurd (let e : false ≡ true = p in cc)

pub is_none_by : (o : Option Held) → o ≡ None → IsTrue (is_none o)
is_none_by o e = ap is_none e

pub names_differ-first : (v : Volume) (vs : List Volume) → IsTrue (names_differ (v ∷ vs)) → volume_of vs v.name ≡ None
names_differ-first v vs p = none_from _ (and_first (is_none (volume_of vs v.name)) (names_differ vs) p)

pub names_differ-rest : (v : Volume) (vs : List Volume) → IsTrue (names_differ (v ∷ vs)) → IsTrue (names_differ vs)
names_differ-rest v vs p = and_second (is_none (volume_of vs v.name)) (names_differ vs) p

-- a volume of a new name at the end
pub names_differ-push : (vs : List Volume) (v : Volume) → IsTrue (names_differ vs) → volume_of vs v.name ≡ None → IsTrue (names_differ (vs ++ v ∷ []))
names_differ-push [] v p none = refl
names_differ-push (w ∷ vs) v p none =
    let other : v.name ≢ w.name = λ e. (let h = volume_of-here w vs v.name (sym e) in cc) in
    and_true (is_none (volume_of (vs ++ v ∷ []) w.name)) (names_differ (vs ++ v ∷ []))
    (is_none_by _ (volume_of-push_other vs v w.name other ∙ names_differ-first w vs p))
    (names_differ-push vs v (names_differ-rest w vs p) (sym (volume_of-other w vs v.name (λ e. other (sym e))) ∙ none))

-- no volume is under a name after a change in a place, if none was before
pub volume_of-set_none : (vs : List Volume) (name other : List ℕ) (place : ℕ) (v : Volume) → StandsFirstAt name vs place → v.name ≡ name → volume_of vs other ≡ None → volume_of (slice_set vs place v) other ≡ None
volume_of-set_none vs name other place v at e none = elim (name_cases other name) [
  | inl same ↦ absurd (there vs place at (subst (λ (n : List ℕ). volume_of vs n ≡ None) same none))
  | inr o ↦ volume_of-set_other name other vs place v at e o ∙ none
]
  where
    there : (vs : List Volume) (place : ℕ) → StandsFirstAt name vs place → volume_of vs name ≡ None → ⊥
    there [] place at none = at
    there (w ∷ vs) zero at none = (let h = volume_of-here w vs name at in cc)
    there (w ∷ vs) (suc place) at none = there vs place at.1 (sym (volume_of-other w vs name at.0) ∙ none)

-- another volume of the same name in its place
pub names_differ-set : (vs : List Volume) (name : List ℕ) (place : ℕ) (v : Volume) → StandsFirstAt name vs place → v.name ≡ name → IsTrue (names_differ vs) → IsTrue (names_differ (slice_set vs place v))
names_differ-set [] name place v at e p = absurd at
names_differ-set (w ∷ vs) name zero v at e p =
    let none : volume_of vs v.name ≡ None = ap (volume_of vs) (e ∙ sym at) ∙ names_differ-first w vs p in
    and_true (is_none (volume_of vs v.name)) (names_differ vs) (is_none_by _ none) (names_differ-rest w vs p)
names_differ-set (w ∷ vs) name (suc place) v at e p =
    and_true (is_none (volume_of (slice_set vs place v) w.name)) (names_differ (slice_set vs place v))
    (is_none_by _ (volume_of-set_none vs name w.name place v at.1 e (names_differ-first w vs p)))
    (names_differ-set vs name place v at.1 e (names_differ-rest w vs p))

-- the names stay
pub SameNames-set : (vs : List Volume) (name : List ℕ) (place : ℕ) (v : Volume) → StandsFirstAt name vs place → v.name ≡ name → SameNames vs (slice_set vs place v)
SameNames-set vs name place v at e = λ other there none. elim (name_cases other name) [
  | inl same ↦ (let h = ap (volume_of (slice_set vs place v)) same ∙ volume_of-set name vs place v at e in cc)
  | inr o ↦ there (sym (volume_of-set_other name other vs place v at e o) ∙ none)
]

-- what is left of a list from a place on
from_here : (vs : List Volume) (i : ℕ) (v : Volume) → i < length vs → v ≡ get_or vs i v → drop i vs ≡ v ∷ drop (suc i) vs
from_here vs i v within read = drop-cons vs i v within ∙ ap (λ x. x ∷ drop (suc i) vs) (sym read)

pub StandsFirstAt-drop_here : (name : List ℕ) (vs : List Volume) (i : ℕ) (v : Volume) → i < length vs → v ≡ get_or vs i v → v.name ≡ name → StandsFirstAt name (drop i vs) zero
StandsFirstAt-drop_here name vs i v within read e = let P : List Volume → Type 0 = λ l. StandsFirstAt name l zero in subst P (sym (from_here vs i v within read)) e

pub volume_of-drop : (name : List ℕ) (vs : List Volume) (i : ℕ) (v : Volume) → i < length vs → v ≡ get_or vs i v → v.name ≢ name → volume_of (drop (i + 1) vs) name ≡ volume_of (drop i vs) name
volume_of-drop name vs i v within read o = rw (from_here vs i v within read, add-one i) (sym (volume_of-other v (drop (suc i) vs) name o))

pub StandsFirstAt-drop : (name : List ℕ) (vs : List Volume) (i j : ℕ) (v : Volume) → i < length vs → v ≡ get_or vs i v → v.name ≢ name → StandsFirstAt name (drop (i + 1) vs) j → StandsFirstAt name (drop i vs) (suc j)
StandsFirstAt-drop name vs i j v within read o at =
    let P : List Volume → Type 0 = λ l. StandsFirstAt name l (suc j) in
    let g : StandsFirstAt name (drop (suc i) vs) j = rw add-one at at in
    subst P (sym (from_here vs i v within read)) (o, g)
