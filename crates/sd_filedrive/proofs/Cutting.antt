-- What a cut is to a device.
use Rattle.std.proofs.Common.{◌≡◌, ℕ, zero, suc, ◌≤◌, inl, inr, min, Bool, true, false, List, [], ◌∷◌, ◌++◌, length, take, drop, Option, Some, None, refl, ap, sym, ◌∙◌, subst, arith, option_map, if◌then◌else◌, append-nil}
use Rattle.std.proofs.lemmas.Bool.{cases_lt}
use Rattle.std.proofs.lemmas.List.{take-take, take-append-drop, length-take}
use Rattle.sd_driver.specs.Shelf.{Shelf, BeginsWith, KeepsStableTo, MayTruncate, stable_bytes}
use Rattle.sd_driver.proofs.Names.{name_cases}
use Rattle.sd_driver.proofs.Lasting.{BeginsWith-same, BeginsWith-own_take, BeginsWith-trans}
use Rattle.sd_folder.specs.Meaning.{FileState, FolderMeaning, SameFiles, shelf_of, held_of}
use Rattle.sd_folder.specs.Steps.{Cuts, MayCut, MayBeCut}
use Rattle.sd_filedrive.proofs.Changing.{Changes-of, begins_append, begins_take}

take_all : (n : ℕ) (xs : List ℕ) → length xs ≤ n → take n xs ≡ xs
take_all n [] le = take_none n
  where
    take_none : (n : ℕ) → take n (let e : List ℕ = [] in e) ≡ []
    take_none zero = refl
    take_none (suc n) = refl
take_all zero (x ∷ xs) le = absurd (omega arith)
take_all (suc n) (x ∷ xs) le = let r = take_all n xs (omega arith) in ap (λ l. x ∷ l) r

begins_front : (n : ℕ) (xs ys : List ℕ) → length xs ≤ n → BeginsWith (take n (xs ++ ys)) xs
begins_front zero [] ys le = refl
begins_front (suc n) [] ys le = refl
begins_front zero (x ∷ xs) ys le = absurd (omega arith)
begins_front (suc n) (x ∷ xs) ys le = let r = begins_front n xs ys (omega arith) in ap (λ l. x ∷ l) r

-- what was stable before the place of a cut is stable still
pub cut_begins : (to n w : ℕ) (xs tail : List ℕ) → min to w ≤ n → BeginsWith (take n (take to xs ++ tail)) (take to (take w xs))
cut_begins to n w xs tail le = elim (cases_lt to w) [
  | inl less ↦ (let P : List ℕ → Type 0 = λ l. BeginsWith (take n (take to xs ++ tail)) l in
      subst P (sym (take-take to w xs (omega arith))) (begins_front n (take to xs) tail (omega (arith, length-take to xs))))
  | inr more ↦ (let P : List ℕ → Type 0 = λ l. BeginsWith (take n (take to xs ++ tail)) l in
      let e : take to (take w xs) ≡ take w xs = take_all to (take w xs) (omega (arith, length-take w xs)) in
      let f : take w (take to xs) ≡ take w xs = take-take w to xs more in
      let Q : List ℕ → Type 0 = λ l. BeginsWith (take w (take to xs ++ tail)) l in
      subst P (sym e) (BeginsWith-trans _ (take w (take to xs ++ tail)) (take w xs)
      (begins_take w n (take to xs ++ tail) (omega arith))
      (subst Q f (begins_append w (take to xs) tail))))
]

pub min_stable : (to : ℕ) (s t : FileState) → MayBeCut to s t → min to (held_of s).stable ≤ (held_of t).stable
min_stable to s t m = of s.named refl
  where
    of : (n : Bool) → s.named ≡ n → min to (held_of s).stable ≤ (held_of t).stable
    of false e = (let z : (held_of s).stable ≡ 0 = ap (λ b. if b then s.written else 0) e in omega (arith, z))
    of true e =
        let x : (held_of s).stable ≡ s.written = ap (λ b. if b then s.written else 0) e in
        let y : (held_of t).stable ≡ t.written = ap (λ b. if b then t.written else 0) (m.named ∙ e) in
        omega (arith, x, y, m.written)

-- a cut that worked
pub MayCut-of : (name : List ℕ) (to : ℕ) (a b : FolderMeaning) → Cuts name to a b → MayCut name to a b
MayCut-of name to a b takes = record {
  here = λ state is. (let t = takes.here state is in (
    t.0,
    record {
      tail = [];
      bytes = ap (λ (x : FileState). x.bytes) t.1 ∙ sym (append-nil (take to state.bytes));
      written = omega (arith, ap (λ (x : FileState). x.written) t.1);
      named = ap (λ (x : FileState). x.named) t.1;
      torn = ap (λ (x : FileState). x.torn) t.1;
    },
    t.2,
  ));
  others = takes.others;
}

pub MayCut-keeps : (name : List ℕ) (to : ℕ) (loaded : Option (List ℕ)) (a b : FolderMeaning) → loaded ≡ Some name → MayCut name to a b → KeepsStableTo to loaded (shelf_of a) (shelf_of b)
MayCut-keeps name to loaded a b is takes = record {
  front = λ other. elim (name_cases other name) [
    | inl e ↦ (let P : List ℕ → Type 0 = λ n. BeginsWith (stable_bytes ((shelf_of b).volume n)) (take to (stable_bytes ((shelf_of a).volume n))) in subst P (sym e) (of (a.file name) refl))
    | inr differs ↦ (let P : Option FileState → Type 0 = λ o. BeginsWith (stable_bytes (option_map held_of o)) (take to (stable_bytes ((shelf_of a).volume other))) in
        subst P (sym (takes.others other differs)) (BeginsWith-own_take _ to))
  ];
  others = λ other differs. BeginsWith-same _ _ (ap (λ o. stable_bytes (option_map held_of o)) (takes.others other (λ e. differs (is ∙ ap Some (sym e)))));
}
  where
    take_nothing : (n : ℕ) → take n (stable_bytes None) ≡ []
    take_nothing zero = refl
    take_nothing (suc n) = refl

    of : (o : Option FileState) → a.file name ≡ o → BeginsWith (stable_bytes ((shelf_of b).volume name)) (take to (stable_bytes ((shelf_of a).volume name)))
    of None e = (let P : List ℕ → Type 0 = λ l. BeginsWith (stable_bytes ((shelf_of b).volume name)) l in
        let nothing : take to (stable_bytes ((shelf_of a).volume name)) ≡ [] = ap (λ o. take to (stable_bytes (option_map held_of o))) e ∙ take_nothing to in
        subst P (sym nothing) refl)
    of (Some s) e =
        let t = takes.here s e in
        let P : Option FileState → Type 0 = λ o. BeginsWith (stable_bytes ((shelf_of b).volume name)) (take to (stable_bytes (option_map held_of o))) in
        let Q : Option FileState → Type 0 = λ o. BeginsWith (stable_bytes (option_map held_of o)) (take to (stable_bytes (Some (held_of s)))) in
        let R : List ℕ → Type 0 = λ l. BeginsWith (take (held_of t.0).stable l) (take to (take (held_of s).stable s.bytes)) in
        subst P (sym e) (subst Q (sym t.2) (subst R (sym t.1.bytes) (cut_begins to (held_of t.0).stable (held_of s).stable s.bytes t.1.tail (min_stable to s t.0 t.1))))

pub MayTruncate-of : (name : List ℕ) (to : ℕ) (loaded : Option (List ℕ)) (a b : FolderMeaning) → loaded ≡ Some name → MayCut name to a b → MayTruncate to loaded (shelf_of a) (shelf_of b)
MayTruncate-of name to loaded a b is takes = Changes-of _ _ name loaded a b (λ s t m. (m.tail, m.bytes, min_stable to s t m)) is takes

-- nothing was cut
pub MayTruncate-same : (to : ℕ) (loaded : Option (List ℕ)) (a b : FolderMeaning) → SameFiles a b → MayTruncate to loaded (shelf_of a) (shelf_of b)
MayTruncate-same to loaded a b same = record {
  here = λ name held is there. (held, (drop to held.bytes, sym (take-append-drop to held.bytes), omega arith), ap (option_map held_of) (same name) ∙ there);
  others = λ name differs. ap (option_map held_of) (same name);
}

pub KeepsStableTo-looked : (to : ℕ) (loaded : Option (List ℕ)) (a b c : FolderMeaning) → SameFiles a b → KeepsStableTo to loaded (shelf_of b) (shelf_of c) → KeepsStableTo to loaded (shelf_of a) (shelf_of c)
KeepsStableTo-looked to loaded a b c same keeps = record {
  front = λ name. (let P : Option FileState → Type 0 = λ o. BeginsWith (stable_bytes ((shelf_of c).volume name)) (take to (stable_bytes (option_map held_of o))) in subst P (same name) (keeps.front name));
  others = λ name differs. (let P : Option FileState → Type 0 = λ o. BeginsWith (stable_bytes ((shelf_of c).volume name)) (stable_bytes (option_map held_of o)) in subst P (same name) (keeps.others name differs));
}

-- no call
pub MayTruncate-none : (to : ℕ) (loaded : Option (List ℕ)) (s : Shelf) → MayTruncate to loaded s s
MayTruncate-none to loaded s = record {
  here = λ name held is there. (held, (drop to held.bytes, sym (take-append-drop to held.bytes), omega arith), there);
  others = λ name differs. refl;
}
