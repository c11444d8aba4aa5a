-- Volumes by their places in a list, and their names.
use Rattle.std.proofs.Common.{◌≡◌, ◌≢◌, ℕ, zero, suc, ◌<◌, ◌⊎◌, inl, inr, List, [], ◌∷◌, ◌++◌, length, map, slice_get, slice_set, Option, Some, None, refl, ap, sym, ◌∙◌, arith}
use Rattle.sd_volume.specs.Volume.{VolumeView}
use Rattle.sd_drive.specs.View.{names, name_loaded}
use Rattle.sd_drive.specs.Shelf.{NamesDiffer}

pub some_is : {A : Type 0} {x y : A} → Some x ≡ Some y → x ≡ y
some_is e = cc

pub get_set_here : {A : Type 0} (xs : List A) (at : ℕ) (x y : A) → slice_get xs at ≡ Some x → slice_get (slice_set xs at y) at ≡ Some y
get_set_here [] at x y there = cc
get_set_here (z ∷ zs) zero x y there = refl
get_set_here (z ∷ zs) (suc at) x y there = get_set_here zs at x y there

pub get_set_other : {A : Type 0} (xs : List A) (at other : ℕ) (y : A) → other ≢ at → slice_get (slice_set xs at y) other ≡ slice_get xs other
get_set_other [] at other y apart = refl
get_set_other (z ∷ zs) zero zero y apart = absurd (apart refl)
get_set_other (z ∷ zs) zero (suc other) y apart = refl
get_set_other (z ∷ zs) (suc at) zero y apart = refl
get_set_other (z ∷ zs) (suc at) (suc other) y apart = get_set_other zs at other y (λ e. apart (ap (λ n. suc n) e))

pub length_set : {A : Type 0} (xs : List A) (at : ℕ) (y : A) → length (slice_set xs at y) ≡ length xs
length_set [] at y = refl
length_set (z ∷ zs) zero y = refl
length_set (z ∷ zs) (suc at) y = ap (λ n. suc n) (length_set zs at y)

pub set_same : {A : Type 0} (xs : List A) (at : ℕ) (x : A) → slice_get xs at ≡ Some x → slice_set xs at x ≡ xs
set_same [] at x there = refl
set_same (z ∷ zs) zero x there = ap (λ h. h ∷ zs) (sym (some_is there))
set_same (z ∷ zs) (suc at) x there = ap (λ t. z ∷ t) (set_same zs at x there)

pub within_get : {A : Type 0} (xs : List A) (at : ℕ) (x : A) → slice_get xs at ≡ Some x → at < length xs
within_get [] at x there = cc
within_get (z ∷ zs) zero x there = omega arith
within_get (z ∷ zs) (suc at) x there = let r = within_get zs at x there in omega arith

pub get_front : {A : Type 0} (xs ys : List A) (at : ℕ) (x : A) → slice_get xs at ≡ Some x → slice_get (xs ++ ys) at ≡ Some x
get_front [] ys at x there = cc
get_front (z ∷ zs) ys zero x there = there
get_front (z ∷ zs) ys (suc at) x there = get_front zs ys at x there

-- what is at a place of a list with one more at its end: one that was there, or the one more
pub record IsLast {A : Type 0} (xs : List A) (at : ℕ) (x y : A) : Type 0 where
  pub place : at ≡ length xs
  pub value : x ≡ y

pub get_more : {A : Type 0} (xs : List A) (y : A) (at : ℕ) (x : A) → slice_get (xs ++ y ∷ []) at ≡ Some x → (slice_get xs at ≡ Some x) ⊎ IsLast xs at x y
get_more [] y zero x there = inr (record { place = refl; value = sym (some_is there) })
get_more [] y (suc at) x there = cc
get_more (z ∷ zs) y zero x there = inl there
get_more (z ∷ zs) y (suc at) x there = elim (get_more zs y at x there) [
  | inl e ↦ inl e
  | inr l ↦ inr (record { place = ap (λ n. suc n) l.place; value = l.value })
]

pub get_map : {A B : Type 0} (f : A → B) (xs : List A) (at : ℕ) (x : A) → slice_get xs at ≡ Some x → slice_get (map f xs) at ≡ Some (f x)
get_map f [] at x there = cc
get_map f (z ∷ zs) zero x there = ap (λ y. Some (f y)) (some_is there)
get_map f (z ∷ zs) (suc at) x there = get_map f zs at x there

pub record IsMapped {A B : Type 0} (f : A → B) (xs : List A) (at : ℕ) (y : B) : Type 0 where
  pub value : A
  pub there : slice_get xs at ≡ Some value
  pub is : y ≡ f value

pub get_mapped : {A B : Type 0} (f : A → B) (xs : List A) (at : ℕ) (y : B) → slice_get (map f xs) at ≡ Some y → IsMapped f xs at y
get_mapped f [] at y there = cc
get_mapped f (z ∷ zs) zero y there = record { value = z; there = refl; is = sym (some_is there) }
get_mapped f (z ∷ zs) (suc at) y there = let r = get_mapped f zs at y there in record { value = r.value; there = r.there; is = r.is }

-- Places are one or apart.
pub place_cases : (at other : ℕ) → (at ≡ other) ⊎ (at ≢ other)
place_cases zero zero = inl refl
place_cases zero (suc other) = inr (λ e. cc)
place_cases (suc at) zero = inr (λ e. cc)
place_cases (suc at) (suc other) = elim (place_cases at other) [
  | inl e ↦ inl (ap (λ n. suc n) e)
  | inr apart ↦ inr (λ e. apart (omega arith))
]

-- ---- names

-- another of the same name in a volume's place
pub names_set : (vs : List VolumeView) (at : ℕ) (v w : VolumeView) → slice_get vs at ≡ Some v → w.name ≡ v.name → names (slice_set vs at w) ≡ names vs
names_set [] at v w there same = refl
names_set (z ∷ zs) zero v w there same = ap (λ n. n ∷ names zs) (same ∙ ap (λ (x : VolumeView). x.name) (sym (some_is there)))
names_set (z ∷ zs) (suc at) v w there same = ap (λ n. z.name ∷ n) (names_set zs at v w there same)

pub name_at : (vs : List VolumeView) (at : ℕ) (v : VolumeView) → slice_get vs at ≡ Some v → slice_get (names vs) at ≡ Some v.name
name_at vs at v there = get_map (λ (x : VolumeView). x.name) vs at v there

pub names_more : (vs : List VolumeView) (v : VolumeView) → names (vs ++ v ∷ []) ≡ names vs ++ v.name ∷ []
names_more [] v = refl
names_more (z ∷ zs) v = ap (λ n. z.name ∷ n) (names_more zs v)

-- with names that differ, the volume at another place has another name
pub other_name : (vs : List VolumeView) (at other : ℕ) (v w : VolumeView) → NamesDiffer vs → slice_get vs at ≡ Some v → slice_get vs other ≡ Some w → other ≢ at → w.name ≢ v.name
other_name vs at other v w differ there here apart = λ e.
    apart (differ other at v.name (name_at vs other w here ∙ ap (λ n. Some n) e) (name_at vs at v there))

pub differ_same : (vs vs' : List VolumeView) → names vs' ≡ names vs → NamesDiffer vs → NamesDiffer vs'
differ_same vs vs' same differ = λ at other name here there.
    differ at other name (ap (λ (ns : List (List ℕ)). slice_get ns at) (sym same) ∙ here) (ap (λ (ns : List (List ℕ)). slice_get ns other) (sym same) ∙ there)

pub differ_more : (vs : List VolumeView) (v : VolumeView) → ((at : ℕ) → slice_get (names vs) at ≢ Some v.name) → NamesDiffer vs → NamesDiffer (vs ++ v ∷ [])
differ_more vs v new differ = λ at other name here there.
    let h = get_more (names vs) v.name at name (ap (λ (ns : List (List ℕ)). slice_get ns at) (sym (names_more vs v)) ∙ here) in
    let t = get_more (names vs) v.name other name (ap (λ (ns : List (List ℕ)). slice_get ns other) (sym (names_more vs v)) ∙ there) in
    both at other name h t
  where
    both : (at other : ℕ) (name : List ℕ) → (slice_get (names vs) at ≡ Some name) ⊎ IsLast (names vs) at name v.name → (slice_get (names vs) other ≡ Some name) ⊎ IsLast (names vs) other name v.name → at ≡ other
    both at other name (inl h) (inl t) = differ at other name h t
    both at other name (inl h) (inr t) = absurd (new at (h ∙ ap (λ n. Some n) t.value))
    both at other name (inr h) (inl t) = absurd (new other (t ∙ ap (λ n. Some n) h.value))
    both at other name (inr h) (inr t) = h.place ∙ sym t.place

-- the name of what is loaded, by the names alone
pub loaded_same : (vs vs' : List VolumeView) (loaded : Option ℕ) → names vs' ≡ names vs → name_loaded vs' loaded ≡ name_loaded vs loaded
loaded_same vs vs' None same = refl
loaded_same vs vs' (Some at) same = ap (λ (ns : List (List ℕ)). slice_get ns at) same

pub loaded_at : (vs : List VolumeView) (at : ℕ) (v : VolumeView) → slice_get vs at ≡ Some v → name_loaded vs (Some at) ≡ Some v.name
loaded_at vs at v there = name_at vs at v there
