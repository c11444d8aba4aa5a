-- A drive with one volume more, and one whose device was called without a change to the drive's volumes.
use Rattle.std.proofs.Common.{◌≡◌, ◌≢◌, inl, inr, ℕ, ◌≤◌, ◌<◌, List, [], ◌∷◌, ◌++◌, length, refl, ap, sym, subst, Option, Some, None, ◌∙◌, slice_get}
use Rattle.std.specs.Prelude.{IfSome}
use Rattle.std.specs.List.{AllByRecursion}
use Rattle.sd_driver.specs.Meaning.{Meaning, IsHonest}
use Rattle.sd_driver.specs.Shelf.{Shelf, StillLastsBelow, MayCreate}
use Rattle.sd_journal.specs.Journal.{Entry, live}
use Rattle.sd_journal.specs.declared.mark.Mark.TheVariants.{Unsynced}
use Rattle.sd_lane.specs.declared.piece.Piece.{Piece}
use Rattle.sd_driver.proofs.Names.{name_cases}
use Rattle.sd_volume.specs.Device.{OnlyReads}
use Rattle.sd_volume.specs.Volume.{VolumeView}
use Rattle.sd_drive.specs.View.{names, name_loaded}
use Rattle.sd_drive.specs.Shelf.{LiesOn, IsOnLoaded, Kept, KeepsPieces}
use Rattle.sd_drive.proofs.Places.{get_front, name_at, differ_more}
use Rattle.sd_drive.proofs.Stays.{Stands, SameBytes, same_bytes, fronts_same, all_safe, all_same_block, blocks_same, StillOn, still_on}
use Rattle.sd_drive.proofs.LaidLemmas.{none_on, laid_first, all_laid_same, all_laid_more}
use Rattle.sd_drive.proofs.Kept.{still, kept_stand, all_as, blocks_of}
use Rattle.sd_drive.proofs.LoadLemmas.{none_when}

-- every volume of the drive has its bytes
abbrev pub SameOn : List VolumeView → Shelf → Shelf → Type 0
SameOn vs old new = (at : ℕ) (v : VolumeView) → slice_get vs at ≡ Some v → SameBytes old new v.name

-- a name that no volume has
abbrev pub IsFresh : List VolumeView → List ℕ → Type 0
IsFresh vs name = (at : ℕ) → slice_get (names vs) at ≢ Some name

pub same_but : (vs : List VolumeView) (name : List ℕ) (old new : Shelf) → IsFresh vs name → ((other : List ℕ) → other ≢ name → new.volume other ≡ old.volume other) → SameOn vs old new
same_but vs name old new fresh others = λ at v there. same_bytes old new v.name (others v.name (λ e. fresh at (name_at vs at v there ∙ ap (λ n. Some n) e)))

pub same_made : (vs : List VolumeView) (name : List ℕ) (old new : Shelf) → MayCreate name old new → SameOn vs old new
same_made vs name old new made = λ at v there held is. elim (name_cases v.name name) [
  | inl e ↦ (held, ap new.volume e ∙ made.there held (ap old.volume (sym e) ∙ is), refl)
  | inr o ↦ (held, made.others v.name o ∙ is, refl)
]

pub on_others : (vs : List VolumeView) (name : List ℕ) (to : ℕ) (old new : Shelf) → IsFresh vs name → StillLastsBelow to name old new → StillOn vs old new
on_others vs name to old new fresh below = λ at v there since bytes lasts. below.others since v.name bytes (λ e. fresh at (name_at vs at v there ∙ ap (λ n. Some n) e)) lasts

lies_front : (vs : List VolumeView) (v : VolumeView) (e : Entry) → LiesOn vs e → LiesOn (vs ++ v ∷ []) e
lies_front vs v e lies = record { at = lies.at; volume = lies.volume; there = get_front vs (v ∷ []) lies.at lies.volume lies.there; name_is = lies.name_is; within = lies.within }

-- with none loaded, and one volume more
pub kept_more : (old new : Meaning) (vs vs' : List VolumeView) (l : Option ℕ) (js : List Entry) (v : VolumeView)
    → Kept old vs l js → l ≡ None → vs' ≡ vs ++ v ∷ [] → IsFresh vs v.name → new.honest ≡ old.honest → new.loaded ≡ None → old.shelf.moment ≤ new.shelf.moment
    → (IsHonest old → StillOn vs old.shelf new.shelf) → (IsHonest old → SameOn vs old.shelf new.shelf) → (IsHonest old → Stands new.shelf v) → Kept new vs' l js
kept_more old new vs vs' l js v k none all fresh honest loaded moment later same stands =
    let P : List VolumeView → Type 0 = λ x. Kept new x l js in
    let Q : Option ℕ → Type 0 = λ o. IfSome o (λ at. at < length (vs ++ v ∷ [])) in
    let R : Option ℕ → Type 0 = λ o. AllByRecursion (IsOnLoaded (name_loaded (vs ++ v ∷ []) o)) js in
    let none_un = none_when old vs l js none k in
    subst P (sym all) (record {
      tied = loaded ∙ sym (ap (name_loaded (vs ++ v ∷ [])) none);
      one_of = subst Q (sym none) tt;
      differ = differ_more vs v fresh k.differ;
      lie = all_as (LiesOn vs) (LiesOn (vs ++ v ∷ [])) js (λ e lies. lies_front vs v e lies) k.lie;
      unsynced = subst R (sym none) (all_as (λ e. e.mark ≢ Unsynced) (IsOnLoaded None) js (λ e n u. absurd (n u)) none_un);
      laid = λ h. (
          let o = still old new honest h in
          all_laid_more new.shelf vs (live js) v (laid_first new.shelf (live js) v (none_on vs js v.name fresh k.lie) (stands o))
          (all_laid_same old.shelf new.shelf vs (live js) (same o) (k.laid o)));
      safe = λ h. (
          let o = still old new honest h in
          all_safe old.shelf new.shelf vs js (fronts_same old.shelf new.shelf vs (kept_stand old vs l js k o) (same o)) (later o) moment k.lie (k.safe o));
    })

-- with none loaded, and the same volumes
pub kept_called : (old new : Meaning) (vs : List VolumeView) (l : Option ℕ) (js : List Entry)
    → Kept old vs l js → l ≡ None → new.honest ≡ old.honest → new.loaded ≡ None → old.shelf.moment ≤ new.shelf.moment
    → (IsHonest old → StillOn vs old.shelf new.shelf) → (IsHonest old → SameOn vs old.shelf new.shelf) → Kept new vs l js
kept_called old new vs l js k none honest loaded moment later same = record {
  tied = loaded ∙ sym (ap (name_loaded vs) none);
  one_of = k.one_of;
  differ = k.differ;
  lie = k.lie;
  unsynced = k.unsynced;
  laid = λ h. (let o = still old new honest h in all_laid_same old.shelf new.shelf vs (live js) (same o) (k.laid o));
  safe = λ h. (
      let o = still old new honest h in
      all_safe old.shelf new.shelf vs js (fronts_same old.shelf new.shelf vs (kept_stand old vs l js k o) (same o)) (later o) moment k.lie (k.safe o));
}

-- the pieces over such a call
pub pieces_called : (old new : Meaning) (vs : List VolumeView) (l : Option ℕ) (js : List Entry) (hand : Option Piece)
    → Kept old vs l js → new.honest ≡ old.honest → (IsHonest old → SameOn vs old.shelf new.shelf) → KeepsPieces old new js js hand hand
pieces_called old new vs l js hand k honest same = record {
  honest = honest;
  items = refl;
  blocks = λ o. blocks_of old.shelf new.shelf js js hand
      (blocks_same old.shelf new.shelf js (all_same_block old.shelf new.shelf vs js (fronts_same old.shelf new.shelf vs (kept_stand old vs l js k o) (same o)) k.lie));
}

-- over calls that only read, whatever is loaded
pub kept_read : (fault : Type 0) (old new : Meaning) (vs : List VolumeView) (l : Option ℕ) (js : List Entry) → Kept old vs l js → OnlyReads fault old new → Kept new vs l js
kept_read fault old new vs l js k reads = record {
  tied = reads.loaded ∙ k.tied;
  one_of = k.one_of;
  differ = k.differ;
  lie = k.lie;
  unsynced = k.unsynced;
  laid = λ h. (
      let o = still old new reads.counted.honest h in
      all_laid_same old.shelf new.shelf vs (live js) (λ at v there. same_bytes old.shelf new.shelf v.name (reads.same o v.name)) (k.laid o));
  safe = λ h. (
      let o = still old new reads.counted.honest h in
      let fronts = fronts_same old.shelf new.shelf vs (kept_stand old vs l js k o) (λ at v there. same_bytes old.shelf new.shelf v.name (reads.same o v.name)) in
      all_safe old.shelf new.shelf vs js fronts (still_on vs old.shelf new.shelf reads.lasts) reads.counted.moment k.lie (k.safe o));
}

pub pieces_read : (fault : Type 0) (old new : Meaning) (vs : List VolumeView) (l : Option ℕ) (js : List Entry) (hand : Option Piece) → Kept old vs l js → OnlyReads fault old new → KeepsPieces old new js js hand hand
pieces_read fault old new vs l js hand k reads = pieces_called old new vs l js hand k reads.counted.honest (λ o at v there. same_bytes old.shelf new.shelf v.name (reads.same o v.name))
