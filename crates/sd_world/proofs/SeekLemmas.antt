-- The next volume of a drive, for which no refusal of a mount is due.
use Rattle.std.proofs.Common.{◌≡◌, ℕ, true, false, not, Option, Some, None, List, refl, sym, ap, ◌∙◌, inl, inr, slice_get, map}
use Rattle.std.specs.Str.{bytes_eq}
use Rattle.std.proofs.lemmas.Bool.Decides.{eqb_tells}
use Rattle.std.proofs.lemmas.Slice.Eq.{bytes_eq-Decides}
use Rattle.sd_base.specs.Choice.{FirstOf}
use Rattle.sd_desk.specs.Next.{TakesBlocksOf}
use Rattle.sd_drive.specs.Moves.{TakesBlocks, mount_due, index_of, is_append, is_at, is_other_pool}
use Rattle.sd_drive.specs.Shelf.{NamesDiffer}
use Rattle.sd_drive.specs.View.{DriveIs}
use Rattle.sd_drive.proofs.FindLemmas.{place_there, place_none, due_there}
use Rattle.sd_drive.proofs.Places.{get_map}
use Rattle.sd_volume.specs.Volume.{VolumeView}

-- the volume of a name is where it was found
stands_at : (vs : List VolumeView) (name : List ℕ) (place : ℕ) (v : VolumeView) → NamesDiffer vs → slice_get vs place ≡ Some v → name ≡ v.name
    → index_of vs name ≡ Some place
stands_at vs name place v differ there is = from (index_of vs name) refl
  where
    here : slice_get (map (λ (x : VolumeView). x.name) vs) place ≡ Some name
    here = get_map (λ (x : VolumeView). x.name) vs place v there ∙ ap Some (sym is)

    from : (o : Option ℕ) → index_of vs name ≡ o → index_of vs name ≡ Some place
    from None none = absurd (place_none vs name none place here)
    from (Some k) found =
        let that = place_there vs name k found in
        let one : k ≡ place = differ k place name (get_map (λ (x : VolumeView). x.name) vs k that.0 that.1 ∙ ap Some that.2) here in
        found ∙ ap Some one

-- if the loaded volume doesn't take blocks, one that takes them isn't the loaded one
not_loaded : {D : Type 0} (d : DriveIs D) (loaded : Option ℕ) (place : ℕ) → d.loaded ≡ loaded → (d.loaded ≡ Some place → ⊥) → is_at loaded place ≡ false
not_loaded d None place is apart = refl
not_loaded d (Some at) place is apart = elim (eqb_tells at place) [
  | inl p ↦ absurd (apart (is ∙ ap Some p.1))
  | inr p ↦ p.0
]

-- no refusal of a mount is due at the first volume that takes blocks of the drive's pool
pub next_free : {D : Type 0} (d : DriveIs D) (pool name : List ℕ) (place : ℕ) (first : FirstOf (TakesBlocksOf pool) (λ _ _. ⊥) d.volumes place)
    → NamesDiffer d.volumes → (TakesBlocks d → ⊥) → d.pool ≡ Some pool → name ≡ first.first.name → mount_due d name ≡ None
next_free d pool name place first differ takes_none pool_is is =
    let v = first.first in
    let of = first.is_candidate in
    let append : is_append v.status ≡ true = ap is_append of.appendable in
    let apart : is_at d.loaded place ≡ false = not_loaded d d.loaded place refl
    (λ loaded. takes_none (place, v, record { loaded_is = loaded; there = first.there; status_is = of.appendable; pool_is = pool_is ∙ ap Some of.pool_is })) in
    let same : bytes_eq pool v.pool ≡ true = (bytes_eq-Decides pool v.pool).1 of.pool_is in
    let no_other : is_other_pool d.pool v.pool ≡ false = ap (λ o. is_other_pool o v.pool) pool_is ∙ ap not same in
    due_there d name place v (stands_at d.volumes name place v differ first.there is) first.there ∙ rw (append, apart, no_other)
