-- The volume of a name, and which refusals are due.
use Rattle.std.proofs.Common.{◌≡◌, ◌≢◌, ℕ, zero, suc, ◌<◌, Bool, true, false, List, [], ◌∷◌, length, slice_get, Option, Some, None, refl, ap, sym, ◌∙◌, arith, nat_lt, cond}
use Rattle.std.specs.List.{position_or_len, find}
use Rattle.std.specs.Option.{is_some, option_map_or}
use Rattle.std.specs.Str.{bytes_eq}
use Rattle.std.proofs.lemmas.Slice.Eq.{bytes_eq-Decides}
use Rattle.std.proofs.lemmas.List.Folds.{find_at}
use Rattle.std.proofs.lemmas.Option.{cond_some, slice_get_past}
use Rattle.std.proofs.lemmas.Bool.{ltb-true, ltb-false}
use Rattle.sd_base.specs.declared.refusal.Refusal.{Refusal}
use Rattle.sd_base.specs.declared.refusal.Refusal.TheVariants.{VolumeNotOnShelf}
use Rattle.sd_volume.specs.Volume.{VolumeView}
use Rattle.sd_drive.specs.View.{DriveIs, names}
use Rattle.sd_drive.specs.Moves.{index_of, mount_due, mount_due_at}
use Rattle.sd_drive.proofs.Places.{some_is, get_mapped}

get_some : {A : Type 0} (xs : List A) (at : ℕ) → at < length xs → (x : A) × (slice_get xs at ≡ Some x)
get_some [] at le = absurd (omega arith)
get_some (x ∷ xs) zero le = (x, refl)
get_some (x ∷ xs) (suc at) le = get_some xs at (omega arith)

find_holds : {A : Type 0} (p : A → Bool) (xs : List A) (x : A) → find p xs ≡ Some x → p x ≡ true
find_holds p [] x found = cc
find_holds p (y ∷ ys) x found = from (λ e. find_holds p ys x e) (p y) refl found
  where
    from : (find p ys ≡ Some x → p x ≡ true) → (b : Bool) → p y ≡ b → cond b (Some y) (find p ys) ≡ Some x → p x ≡ true
    from later true is e = ap p (sym (some_is e)) ∙ is
    from later false is e = later e

find_none : {A : Type 0} (p : A → Bool) (xs : List A) (at : ℕ) (x : A) → find p xs ≡ None → slice_get xs at ≡ Some x → p x ≡ true → ⊥
find_none p [] at x none there is = cc
find_none p (y ∷ ys) at x none there is = from (λ n e t. find_none p ys n x e t is) (p y) refl none at there
  where
    from : ((n : ℕ) → find p ys ≡ None → slice_get ys n ≡ Some x → ⊥) → (b : Bool) → p y ≡ b → cond b (Some y) (find p ys) ≡ None → (at : ℕ) → slice_get (y ∷ ys) at ≡ Some x → ⊥
    from later true hit e at there = cc
    from later false miss e zero there = (let one : y ≡ x = some_is there in let t = ap p one ∙ is in cc)
    from later false miss e (suc at) there = later at e there

-- the volume of a name has that name
pub place_there : (vs : List VolumeView) (name : List ℕ) (at : ℕ) → index_of vs name ≡ Some at → (v : VolumeView) × (slice_get vs at ≡ Some v) × (v.name ≡ name)
place_there vs name at is =
    let p : VolumeView → Bool = λ v. bytes_eq v.name name in
    let here = cond_some (nat_lt (position_or_len p vs) (length vs)) (position_or_len p vs) at is in
    let there = get_some vs (position_or_len p vs) (ltb-true _ _ here.0) in
    let named = find_holds p vs there.0 (find_at p vs ∙ there.1) in
    (there.0, ap (slice_get vs) (sym here.1) ∙ there.1, (bytes_eq-Decides there.0.name name).0 named)

cond_none : (b : Bool) (x : ℕ) → cond b (Some x) None ≡ None → b ≡ false
cond_none true x e = cc
cond_none false x e = refl

-- if there is none, no volume has it
pub place_none : (vs : List VolumeView) (name : List ℕ) → index_of vs name ≡ None → (at : ℕ) → slice_get (names vs) at ≢ Some name
place_none vs name none at there =
    let p : VolumeView → Bool = λ v. bytes_eq v.name name in
    let past = ltb-false _ _ (cond_none (nat_lt (position_or_len p vs) (length vs)) (position_or_len p vs) none) in
    let m = get_mapped (λ (v : VolumeView). v.name) vs at name there in
    find_none p vs at m.value (find_at p vs ∙ slice_get_past vs (position_or_len p vs) past) m.there ((bytes_eq-Decides m.value.name name).1 (sym m.is))

-- which refusal is due at a volume that was found
pub due_there : {D : Type 0} (d : DriveIs D) (name : List ℕ) (at : ℕ) (v : VolumeView) → index_of d.volumes name ≡ Some at → slice_get d.volumes at ≡ Some v → mount_due d name ≡ mount_due_at d.loaded d.pool at v
due_there d name at v is there =
    let none : Option Refusal = Some VolumeNotOnShelf in
    ap (λ o. option_map_or (λ at. option_map_or (mount_due_at d.loaded d.pool at) (slice_get d.volumes at) none) o none) is
    ∙ ap (λ o. option_map_or (mount_due_at d.loaded d.pool at) o none) there

pub none_found : (found : Option ℕ) → is_some found ≡ false → found ≡ None
none_found None e = refl
none_found (Some at) e = cc
