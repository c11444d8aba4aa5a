-- What a step of a file is to a device: how the shelf changes, and that stable bytes stay.
use Rattle.std.proofs.Common.{◌≡◌, ◌≢◌, ℕ, zero, suc, ◌≤◌, inl, inr, Bool, true, false, List, [], ◌∷◌, ◌++◌, length, take, Option, Some, None, refl, ap, sym, ◌∙◌, subst, arith, IsTrue, option_map, if◌then◌else◌, Result, Ok, Err, OnOk, OnErr}
use Rattle.std.proofs.Math.Seq.{take-length}
use Rattle.sd_driver.specs.Shelf.{Held, BeginsWith, KeepsStable, Changes, MayAppend, MaySync, stable_bytes}
use Rattle.sd_driver.proofs.Names.{name_cases}
use Rattle.sd_driver.proofs.Lasting.{BeginsWith-same, BeginsWith-own_take}
use Rattle.sd_folder.specs.Meaning.{FileState, FolderMeaning, IsHonest, Goes, SameFiles, shelf_of, held_of}
use Rattle.sd_folder.specs.Steps.{Takes, MayMake, Makes, Adds, MayAdd}
use Rattle.sd_base.proofs.ChoiceLemmas.{same_some}
use Rattle.sd_filedrive.specs.Known.{SyncsAll, MaySyncAll, MayLast, Knows, IsOpen}
use Rattle.sd_filedrive.specs.declared.files.Loaded.{Loaded}

-- a file takes a step, its volume one too
pub Changes-of : (step : FileState → FileState → Type 0) (held_step : Held → Held → Type 0) (name : List ℕ) (loaded : Option (List ℕ)) (a b : FolderMeaning)
    → ((s t : FileState) → step s t → held_step (held_of s) (held_of t))
    → loaded ≡ Some name → Takes step name a b → Changes held_step loaded (shelf_of a) (shelf_of b)
Changes-of step held_step name loaded a b as_held is takes = record {
  here = λ other held at there. (let same : other ≡ name = same_some (sym at ∙ is) in
      let P : List ℕ → Type 0 = λ n. (shelf_of a).volume n ≡ Some held → (after : Held) × held_step held after × ((shelf_of b).volume n ≡ Some after) in
      subst P (sym same) (of held (a.file name) refl) there);
  others = λ other differs. ap (option_map held_of) (takes.others other (λ e. differs (is ∙ ap Some (sym e))));
}
  where
    of : (held : Held) (o : Option FileState) → a.file name ≡ o → (shelf_of a).volume name ≡ Some held → (after : Held) × held_step held after × ((shelf_of b).volume name ≡ Some after)
    of held None e there = (let none = ap (option_map held_of) (sym e) ∙ there in cc)
    of held (Some s) e there =
        let t = takes.here s e in
        let same : held_of s ≡ held = same_some (ap (option_map held_of) (sym e) ∙ there) in
        (held_of t.0, (let P : Held → Type 0 = λ h. held_step h (held_of t.0) in subst P same (as_held s t.0 t.1)), ap (option_map held_of) t.2)

pub KeepsStable-step : (step : FileState → FileState → Type 0) (name : List ℕ) (a b : FolderMeaning)
    → ((s t : FileState) → step s t → BeginsWith (stable_bytes (Some (held_of t))) (stable_bytes (Some (held_of s))))
    → Takes step name a b → KeepsStable (shelf_of a) (shelf_of b)
KeepsStable-step step name a b keeps takes other = elim (name_cases other name) [
  | inl e ↦ (let P : List ℕ → Type 0 = λ n. BeginsWith (stable_bytes ((shelf_of b).volume n)) (stable_bytes ((shelf_of a).volume n)) in subst P (sym e) (of (a.file name) refl))
  | inr differs ↦ BeginsWith-same _ _ (ap (λ o. stable_bytes (option_map held_of o)) (takes.others other differs))
]
  where
    of : (o : Option FileState) → a.file name ≡ o → BeginsWith (stable_bytes ((shelf_of b).volume name)) (stable_bytes ((shelf_of a).volume name))
    of None e = (let P : Option FileState → Type 0 = λ o. BeginsWith (stable_bytes ((shelf_of b).volume name)) (stable_bytes (option_map held_of o)) in subst P (sym e) refl)
    of (Some s) e =
        let t = takes.here s e in
        let P : Option FileState → Type 0 = λ o. BeginsWith (stable_bytes ((shelf_of b).volume name)) (stable_bytes (option_map held_of o)) in
        let Q : Option FileState → Type 0 = λ o. BeginsWith (stable_bytes (option_map held_of o)) (stable_bytes (Some (held_of s))) in
        subst P (sym e) (subst Q (sym t.2) (keeps s t.0 t.1))

pub begins_append : (n : ℕ) (xs ys : List ℕ) → BeginsWith (take n (xs ++ ys)) (take n xs)
begins_append zero xs ys = refl
begins_append (suc n) [] ys = refl
begins_append (suc n) (x ∷ xs) ys = ap (λ l. x ∷ l) (begins_append n xs ys)

pub begins_take : (m n : ℕ) (xs : List ℕ) → m ≤ n → BeginsWith (take n xs) (take m xs)
begins_take zero n xs le = refl
begins_take (suc m) zero xs le = absurd (omega arith)
begins_take (suc m) (suc n) [] le = refl
begins_take (suc m) (suc n) (x ∷ xs) le = ap (λ l. x ∷ l) (begins_take m n xs (omega arith))

stable_le : (s t : FileState) → MayLast s t → (held_of s).stable ≤ (held_of t).stable
stable_le s t m = of s.named refl
  where
    of : (n : Bool) → s.named ≡ n → (held_of s).stable ≤ (held_of t).stable
    of false e = (let z : (held_of s).stable ≡ 0 = ap (λ b. if b then s.written else 0) e in omega (arith, z))
    of true e =
        let x : (held_of s).stable ≡ s.written = ap (λ b. if b then s.written else 0) e in
        let y : (held_of t).stable ≡ t.written = ap (λ b. if b then t.written else 0) (m.named e) in
        omega (arith, x, y, m.written)

pub Appends-keeps : (name more : List ℕ) (a b : FolderMeaning) → Adds name more a b → KeepsStable (shelf_of a) (shelf_of b)
Appends-keeps name more a b takes = KeepsStable-step _ name a b
    (λ s t is. (let P : FileState → Type 0 = λ x. BeginsWith (stable_bytes (Some (held_of x))) (stable_bytes (Some (held_of s))) in subst P (sym is) (begins_append _ s.bytes more))) takes

pub MayAppend-keeps : (name : List ℕ) (a b : FolderMeaning) → MayAdd name a b → KeepsStable (shelf_of a) (shelf_of b)
MayAppend-keeps name a b takes = KeepsStable-step _ name a b
    (λ s t is. (let P : FileState → Type 0 = λ x. BeginsWith (stable_bytes (Some (held_of x))) (stable_bytes (Some (held_of s))) in subst P (sym is.1) (begins_append _ s.bytes is.0))) takes

pub MayLast-keeps : (s t : FileState) → MayLast s t → BeginsWith (stable_bytes (Some (held_of t))) (stable_bytes (Some (held_of s)))
MayLast-keeps s t m =
    let P : List ℕ → Type 0 = λ x. BeginsWith (take (held_of t).stable x) (take (held_of s).stable s.bytes) in
    subst P (sym m.bytes) (begins_take _ _ s.bytes (stable_le s t m))

pub MaySync-keeps : (name : List ℕ) (a b : FolderMeaning) → MaySyncAll name a b → KeepsStable (shelf_of a) (shelf_of b)
MaySync-keeps name a b takes = KeepsStable-step _ name a b MayLast-keeps takes

pub Syncs-keeps : (name : List ℕ) (a b : FolderMeaning) → SyncsAll name a b → KeepsStable (shelf_of a) (shelf_of b)
Syncs-keeps name a b takes = KeepsStable-step _ name a b
    (λ s t is. (let P : FileState → Type 0 = λ x. BeginsWith (stable_bytes (Some (held_of x))) (stable_bytes (Some (held_of s))) in subst P (sym is) (begins s)))
    takes
  where
    begins : (s : FileState) → BeginsWith (take (length s.bytes) s.bytes) (take (held_of s).stable s.bytes)
    begins s = (let P : List ℕ → Type 0 = λ x. BeginsWith x (take (held_of s).stable s.bytes) in
        subst P (sym (take-length s.bytes)) (BeginsWith-own_take s.bytes (held_of s).stable))

pub MayMake-keeps : (name : List ℕ) (a b : FolderMeaning) → MayMake name a b → KeepsStable (shelf_of a) (shelf_of b)
MayMake-keeps name a b may other = elim (name_cases other name) [
  | inl e ↦ (let P : List ℕ → Type 0 = λ n. BeginsWith (stable_bytes ((shelf_of b).volume n)) (stable_bytes ((shelf_of a).volume n)) in subst P (sym e) (of (a.file name) refl))
  | inr differs ↦ BeginsWith-same _ _ (ap (λ o. stable_bytes (option_map held_of o)) (may.others other differs))
]
  where
    of : (o : Option FileState) → a.file name ≡ o → BeginsWith (stable_bytes ((shelf_of b).volume name)) (stable_bytes ((shelf_of a).volume name))
    of None e = (let P : Option FileState → Type 0 = λ o. BeginsWith (stable_bytes ((shelf_of b).volume name)) (stable_bytes (option_map held_of o)) in subst P (sym e) refl)
    of (Some s) e = BeginsWith-same _ _ (ap (λ o. stable_bytes (option_map held_of o)) (may.there s e ∙ sym e))

pub MayMake-of : (name : List ℕ) (a b : FolderMeaning) → Makes name a b → MayMake name a b
MayMake-of name a b makes = record {
  there = λ state is. (let e = sym makes.absent ∙ is in cc);
  untorn = λ state none is. sym (ap (λ (s : FileState). s.torn) (same_some (sym makes.made ∙ is)));
  others = makes.others;
}

pub MayAppend-of : (name : List ℕ) (loaded : Option (List ℕ)) (a b : FolderMeaning) → loaded ≡ Some name → MayAdd name a b → MayAppend loaded (shelf_of a) (shelf_of b)
MayAppend-of name loaded a b is takes = Changes-of _ _ name loaded a b (λ s t step. (step.0, ap held_of step.1)) is takes

pub MaySync-of : (name : List ℕ) (loaded : Option (List ℕ)) (a b : FolderMeaning) → loaded ≡ Some name → MaySyncAll name a b → MaySync loaded (shelf_of a) (shelf_of b)
MaySync-of name loaded a b is takes = Changes-of _ _ name loaded a b (λ s t step. (step.bytes, stable_le s t step)) is takes

-- what both answers give
pub by_result : {T E : Type 0} (r : Result T E) (P Q R : Type 0) → OnOk r P → OnErr r Q → (P → R) → (Q → R) → R
by_result (Ok value) P Q R p q f g = f p
by_result (Err error) P Q R p q f g = g q

pub on_err : {T E : Type 0} (r : Result T E) (P Q : Type 0) → (P → Q) → OnErr r P → OnErr r Q
on_err (Ok value) P Q f p = tt
on_err (Err error) P Q f p = f p

pub KeepsStable-looked : (a b c : FolderMeaning) → SameFiles a b → KeepsStable (shelf_of b) (shelf_of c) → KeepsStable (shelf_of a) (shelf_of c)
KeepsStable-looked a b c same keeps name = let P : Option FileState → Type 0 = λ o. BeginsWith (stable_bytes ((shelf_of c).volume name)) (stable_bytes (option_map held_of o)) in subst P (same name) (keeps name)

-- honesty was there before
pub honest_before : (old new : FolderMeaning) → Goes old new → IsHonest new → IsHonest old
honest_before old new goes h = let P : Bool → Type 0 = λ b. IsTrue b in subst P goes.honest h

-- a file that was there stays when another is made
pub made_keeps : (name : List ℕ) (a b : FolderMeaning) → MayMake name a b → (other : List ℕ) (s : FileState) → a.file other ≡ Some s → b.file other ≡ Some s
made_keeps name a b may other s is = elim (name_cases other name) [
  | inl e ↦ (let P : List ℕ → Type 0 = λ n. a.file n ≡ Some s → b.file n ≡ Some s in subst P (sym e) (may.there s) is)
  | inr differs ↦ may.others other differs ∙ is
]

pub made_state : (m : FolderMeaning) (name : List ℕ) → m.file name ≢ None → (state : FileState) × (m.file name ≡ Some state)
made_state m name there = of (m.file name) refl
  where
    of : (o : Option FileState) → m.file name ≡ o → (state : FileState) × (m.file name ≡ Some state)
    of None e = absurd (there e)
    of (Some state) e = (state, e)

pub Knows-made : {H : Type 0} (under : List ℕ) (l : Loaded H) (name : List ℕ) (a b : FolderMeaning) → MayMake name a b → Knows under l a → Knows under l b
Knows-made under l name a b may knows =
    let s = made_state a l.name knows.there in
    let kept = made_keeps name a b may l.name s.0 s.1 in
    record {
      same = knows.same;
      there = λ none. (let e = sym kept ∙ none in cc);
      end = λ end is t bt. knows.end end is t (s.1 ∙ sym kept ∙ bt);
      named = λ is t bt. knows.named is t (s.1 ∙ sym kept ∙ bt);
      synced = λ t bt. knows.synced t (s.1 ∙ sym kept ∙ bt);
      whole = λ e t bt. knows.whole e t (s.1 ∙ sym kept ∙ bt);
    }

pub IsOpen-made : (under own name : List ℕ) (a b : FolderMeaning) → MayMake name a b → IsOpen under own a → IsOpen under own b
IsOpen-made under own name a b may open_ =
    let s = made_state a own open_.there in
    record { same = open_.same; there = λ none. (let e = sym (made_keeps name a b may own s.0 s.1) ∙ none in cc) }

pub any_err : {T E : Type 0} (r : Result T E) (Q : Type 0) → Q → OnErr r Q
any_err (Ok value) Q q = tt
any_err (Err error) Q q = q
