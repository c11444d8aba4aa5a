-- What purging a volume keeps.
use Rattle.std.proofs.Common.{◌≡◌, ◌≢◌, ◌⊎◌, inl, inr, ℕ, ◌<◌, ◌≤◌, Bool, true, false, if◌then◌else◌, List, [], ◌∷◌, ◌++◌, length, get_or, drop, refl, ap, sym, subst, Option, Some, None, Err, ◌∙◌, arith, slice_get, slice_set}
use Rattle.std.specs.Prelude.{IfSome}
use Rattle.std.specs.List.{AllByRecursion}
use Rattle.std.specs.Str.{bytes_eq}
use Rattle.std.proofs.lemmas.Option.{slice_get_read}
use Rattle.std.proofs.lemmas.Slice.Eq.{bytes_eq-Decides}
use Rattle.sd_base.specs.declared.number.SessionKey.{SessionKey}
use Rattle.sd_base.specs.declared.refusal.Refusal.TheVariants.{VolumeNotOnShelf}
use Rattle.sd_driver.specs.Meaning.{Meaning, IsHonest}
use Rattle.sd_driver.specs.Shelf.{Shelf, SameShelf, StillLasts, StillLastsBelow}
use Rattle.sd_journal.specs.Journal.{Entry, is_purged, live, purged, purged_one}
use Rattle.sd_journal.specs.declared.mark.Mark.TheVariants.{Unsynced, Purged}
use Rattle.sd_lane.specs.declared.piece.Piece.{Piece}
use Rattle.sd_volume.specs.declared.fault.AdoptFault.{AdoptFault}
use Rattle.sd_volume.specs.declared.fault.AdoptFault.TheVariants as adopt
use Rattle.sd_volume.specs.declared.volume.VolumeStatus.{VolumeStatus}
use Rattle.sd_volume.specs.declared.volume.VolumeStatus.TheVariants as status
use Rattle.sd_volume.specs.Fault.{adopt_refusal}
use Rattle.sd_volume.specs.Purge.{emptied}
use Rattle.sd_volume.specs.Volume.{VolumeView}
use Rattle.sd_drive.specs.View.{DriveIs, name_loaded}
use Rattle.sd_drive.specs.Shelf.{bytes_at, placements_on, IsSafeIfSynced, LiesOn, IsOnLoaded, Kept, KeepsPieces}
use Rattle.sd_drive.specs.Moves.{AddsNone, EmptiesVolume, Purges, KeepsPurging}
use Rattle.sd_drive.proofs.Places.{some_is, get_set_here, get_set_other, set_same, within_get, names_set, differ_same}
use Rattle.sd_drive.proofs.Stays.{Stands, same_bytes, still_on, SameBlock, blocks_same}
use Rattle.sd_drive.proofs.LaidLemmas.{placements_on-append, off_front, laid_first, all_laid_set}
use Rattle.sd_drive.proofs.Kept.{still, all_map, blocks_of}
use Rattle.sd_drive.proofs.LoadLemmas.{none_when}
use Rattle.sd_drive.proofs.SyncLemmas.{parts_are}
use Rattle.sd_drive.proofs.VolumeLists.{kept_called}

-- ---- entries

-- an entry on the volume is gone, and any other as it was
purged_case : (name : List ℕ) (P : Entry → Type 0) (e : Entry) → (e.placement.volume ≡ name → P (record e { mark = Purged })) → (e.placement.volume ≢ name → P e) → P (purged_one name e)
purged_case name P e here other = from (bytes_eq e.placement.volume name) refl
  where
    from : (b : Bool) → bytes_eq e.placement.volume name ≡ b → P (purged_one name e)
    from true is = subst P (sym (ap (λ (b : Bool). if b then record e { mark = Purged } else e) is)) (here ((bytes_eq-Decides e.placement.volume name).0 is))
    from false is =
        subst P (sym (ap (λ (b : Bool). if b then record e { mark = Purged } else e) is)) (other (λ on. (let t = (bytes_eq-Decides e.placement.volume name).1 on in absurd cc)))

purged_lie : (vs : List VolumeView) (at : ℕ) (v w : VolumeView) (js : List Entry) → slice_get vs at ≡ Some v → w.name ≡ v.name → AllByRecursion (LiesOn vs) js → AllByRecursion (LiesOn (slice_set vs at w)) (purged v.name js)
purged_lie vs at v w js there name lie = all_map (LiesOn vs) (LiesOn (slice_set vs at w)) (purged_one v.name) js
    (λ e l. purged_case v.name (LiesOn (slice_set vs at w)) e
    (λ on. record { at = at; volume = w; there = get_set_here vs at v w there; name_is = on ∙ sym name; within = λ is. absurd (cc is) })
    (λ off. record {
      at = l.at;
      volume = l.volume;
      there = get_set_other vs at l.at w (λ same. off (l.name_is ∙ ap (λ (x : VolumeView). x.name) (some_is (sym l.there ∙ ap (slice_get vs) same ∙ there)))) ∙ l.there;
      name_is = l.name_is;
      within = l.within;
    })) lie

-- with nothing unsynced before, nothing is
purged_unsynced : (loaded : Option (List ℕ)) (name : List ℕ) (js : List Entry) → AllByRecursion (λ (e : Entry). e.mark ≢ Unsynced) js → AllByRecursion (IsOnLoaded loaded) (purged name js)
purged_unsynced loaded name js none = all_map (λ (e : Entry). e.mark ≢ Unsynced) (IsOnLoaded loaded) (purged_one name) js
    (λ e other. purged_case name (IsOnLoaded loaded) e (λ on u. absurd (cc u)) (λ off u. absurd (other u))) none

-- no block is left on the volume
purged_none : (name : List ℕ) (js : List Entry) → placements_on name (live (purged name js)) ≡ []
purged_none name [] = refl
purged_none name (e ∷ es) =
    let r = purged_none name es in
    purged_case name (λ x. placements_on name (live (x ∷ purged name es)) ≡ []) e (λ on. r) (λ off. off_front name e (purged name es) off ∙ r)

-- and on another all are
purged_others : (name other : List ℕ) (js : List Entry) → other ≢ name → placements_on other (live (purged name js)) ≡ placements_on other (live js)
purged_others name other [] apart = refl
purged_others name other (e ∷ es) apart =
    let r = purged_others name other es apart in
    purged_case name (λ x. placements_on other (live (x ∷ purged name es)) ≡ placements_on other (live (e ∷ es))) e
    (λ on. r ∙ sym (off_front other e es (λ is. apart (sym is ∙ on))))
    (λ off. behind (is_purged e.mark) r)
  where
    behind : (b : Bool) → placements_on other (live (purged name es)) ≡ placements_on other (live es)
        → placements_on other (if b then live (purged name es) else e.placement ∷ live (purged name es)) ≡ placements_on other (if b then live es else e.placement ∷ live es)
    behind true r = r
    behind false r =
        placements_on-append other (e.placement ∷ []) (live (purged name es)) ∙ ap (λ l. placements_on other (e.placement ∷ []) ++ l) r
        ∙ sym (placements_on-append other (e.placement ∷ []) (live es))

-- if all other volumes are as they were, so are the blocks that are left
purged_blocks : (old new : Shelf) (name : List ℕ) (js : List Entry) → ((other : List ℕ) → other ≢ name → new.volume other ≡ old.volume other) → AllByRecursion (SameBlock old new) (purged name js)
purged_blocks old new name [] others = tt
purged_blocks old new name (e ∷ es) others = (
  purged_case name (SameBlock old new) e (λ on is. absurd (cc is))
      (λ off is. ap (λ (o : _). record { key = e.placement.key; body = drop 24 (bytes_at o e.placement.start e.placement.length) }) (others e.placement.volume off)),
  purged_blocks old new name es others,
)

-- and what is safe
purged_safe : (to : ℕ) (old new : Shelf) (name : List ℕ) (js : List Entry) → ((other : List ℕ) → other ≢ name → new.volume other ≡ old.volume other) → old.moment ≤ new.moment → StillLastsBelow to name old new
    → AllByRecursion (IsSafeIfSynced old) js → AllByRecursion (IsSafeIfSynced new) (purged name js)
purged_safe to old new name js others moment below safe = all_map (IsSafeIfSynced old) (IsSafeIfSynced new) (purged_one name) js
    (λ e h. purged_case name (IsSafeIfSynced new) e (λ on synced. absurd (cc synced))
    (λ off synced. (
    let s = h synced in
    record {
      held = s.held;
      there = others e.placement.volume off ∙ s.there;
      stable = s.stable;
      since = s.since;
      past = omega (arith, s.past, moment);
      lasts = below.others s.since e.placement.volume _ off s.lasts;
    }))) safe

-- ---- a drive

-- with none loaded, a volume has no block any more
pub kept_purged : (old new : Meaning) (vs : List VolumeView) (l : Option ℕ) (js js' : List Entry) (at : ℕ) (v w : VolumeView) (s : VolumeStatus)
    → Kept old vs l js → l ≡ None → slice_get vs at ≡ Some v → w ≡ emptied s v → js' ≡ purged v.name js → new.honest ≡ old.honest → new.loaded ≡ None → old.shelf.moment ≤ new.shelf.moment
    → StillLastsBelow v.first v.name old.shelf new.shelf → (IsHonest old → Stands new.shelf w)
    → (IsHonest old → (other : List ℕ) → other ≢ v.name → new.shelf.volume other ≡ old.shelf.volume other)
    → Kept new (slice_set vs at w) l js'
kept_purged old new vs l js js' at v w s k none there is journal honest loaded moment below stands others =
    let vs' = slice_set vs at w in
    let name : w.name ≡ v.name = ap (λ (x : VolumeView). x.name) is in
    let P : List Entry → Type 0 = λ x. Kept new vs' l x in
    let Q : Option ℕ → Type 0 = λ o. IfSome o (λ n. n < length vs') in
    subst P (sym journal) (record {
      tied = loaded ∙ sym (ap (name_loaded vs') none);
      one_of = subst Q (sym none) tt;
      differ = differ_same vs vs' (names_set vs at v w there name) k.differ;
      lie = purged_lie vs at v w js there name k.lie;
      unsynced = purged_unsynced (name_loaded vs' l) v.name js (none_when old vs l js none k);
      laid = λ h. (
          let o = still old new honest h in
          let empty : placements_on w.name (live (purged v.name js)) ≡ [] = ap (λ n. placements_on n (live (purged v.name js))) name ∙ purged_none v.name js in
          all_laid_set old.shelf new.shelf vs (live js) (live (purged v.name js)) at v w k.differ there (λ other apart. same_bytes old.shelf new.shelf other (others o other apart))
          (λ other apart. purged_others v.name other js apart) (laid_first new.shelf (live (purged v.name js)) w empty (stands o)) (k.laid o));
      safe = λ h. (let o = still old new honest h in purged_safe v.first old.shelf new.shelf v.name js (others o) moment below (k.safe o));
    })

-- with none loaded, and nothing purged
pub kept_unpurged : (old new : Meaning) (vs : List VolumeView) (l : Option ℕ) (js js' : List Entry) (at : ℕ) (v w : VolumeView)
    → Kept old vs l js → l ≡ None → slice_get vs at ≡ Some v → w ≡ v → js' ≡ js → new.honest ≡ old.honest → new.loaded ≡ None → old.shelf.moment ≤ new.shelf.moment
    → StillLasts old.shelf new.shelf → (IsHonest old → SameShelf old.shelf new.shelf) → Kept new (slice_set vs at w) l js'
kept_unpurged old new vs l js js' at v w k none there is journal honest loaded moment later same =
    let all : slice_set vs at w ≡ vs = ap (slice_set vs at) is ∙ set_same vs at v there in
    let P : List VolumeView → Type 0 = λ x. Kept new x l js' in
    let Q : List Entry → Type 0 = λ x. Kept new vs l x in
    subst P (sym all) (subst Q (sym journal)
    (kept_called old new vs l js k none honest loaded moment (λ o. still_on vs old.shelf new.shelf later) (λ o place x here. same_bytes old.shelf new.shelf x.name (same o x.name))))

pub pieces_purged : (old new : Meaning) (name : List ℕ) (js : List Entry) (hand : Option Piece) → new.honest ≡ old.honest
    → (IsHonest old → (other : List ℕ) → other ≢ name → new.shelf.volume other ≡ old.shelf.volume other) → KeepsPieces old new (purged name js) (purged name js) hand hand
pieces_purged old new name js hand honest others = record {
  honest = honest;
  items = refl;
  blocks = λ o. blocks_of old.shelf new.shelf (purged name js) (purged name js) hand
      (blocks_same old.shelf new.shelf (purged name js) (purged_blocks old.shelf new.shelf name js (others o)));
}

-- the drive is as it was, but for its device
pub adds_none : {D : Type 0} (d : DriveIs D) (device : D) (js' : List Entry) (ready : List SessionKey) (at : ℕ) (v w : VolumeView) → slice_get d.volumes at ≡ Some v → w ≡ v → js' ≡ d.journal → ready ≡ d.ready
    → AddsNone d (record d { device = device; volumes = slice_set d.volumes at w; journal = js'; ready = ready })
adds_none d device js' ready at v w there is journal room =
    parts_are d device d.journal js' ready at v w is journal room ∙ ap (λ x. record d { device = device; volumes = x }) (set_same d.volumes at v there)

-- the volume at a place has a name
pub record IsNamed (vs : List VolumeView) (at : ℕ) (name : List ℕ) (v : VolumeView) : Type 0 where
  pub there : slice_get vs at ≡ Some v
  pub name_is : v.name ≡ name

pub is_named : (vs : List VolumeView) (at : ℕ) (name : List ℕ) (v : VolumeView) → (x : VolumeView) × (slice_get vs at ≡ Some x) × (x.name ≡ name) → v ≡ get_or vs at v → IsNamed vs at name v
is_named vs at name v found read =
    let there = slice_get_read vs (length vs) at v refl (within_get vs at found.0 found.1) read in
    record { there = there; name_is = ap (λ (x : VolumeView). x.name) (some_is (sym there ∙ found.1)) ∙ found.2 }

-- ---- by the fault

pub purges_err : {D : Type 0} (T : Type 0) (fault : AdoptFault) (at : ℕ) (v : VolumeView) (old new : DriveIs D) → (fault ≡ adopt.NotOnShelf) ⊎ (fault ≡ adopt.Device) ⊎ (fault ≡ adopt.Memory)
    → (fault ≡ adopt.Device → EmptiesVolume at v status.Error old new) → (fault ≢ adopt.Device → AddsNone old new) → Purges {T = T} at v (Err (adopt_refusal fault)) old new
purges_err T adopt.NotOnShelf at v old new is device other = inr (inl refl, other (λ e. cc))
purges_err T adopt.NotOurVolume at v old new is device other = elim is [ inl e ↦ absurd (cc e) | inr r ↦ elim r [ inl e ↦ absurd (cc e) | inr e ↦ absurd (cc e) ] ]
purges_err T adopt.OtherMedia at v old new is device other = elim is [ inl e ↦ absurd (cc e) | inr r ↦ elim r [ inl e ↦ absurd (cc e) | inr e ↦ absurd (cc e) ] ]
purges_err T adopt.BlocksOfThisRun at v old new is device other = elim is [ inl e ↦ absurd (cc e) | inr r ↦ elim r [ inl e ↦ absurd (cc e) | inr e ↦ absurd (cc e) ] ]
purges_err T adopt.Device at v old new is device other = inl (refl, device refl)
purges_err T adopt.Memory at v old new is device other = inr (inr refl, other (λ e. cc))

pub keeps_err : (T : Type 0) (fault : AdoptFault) (name : List ℕ) (old new : Meaning) (js : List Entry) (hand : Option Piece)
    → (fault ≡ adopt.Device → KeepsPieces old new (purged name js) (purged name js) hand hand) → (fault ≢ adopt.Device → KeepsPieces old new js js hand hand) → KeepsPurging {T = T} (Err (adopt_refusal fault)) name old new js hand
keeps_err T adopt.NotOnShelf name old new js hand device other = other (λ e. cc)
keeps_err T adopt.NotOurVolume name old new js hand device other = other (λ e. cc)
keeps_err T adopt.OtherMedia name old new js hand device other = other (λ e. cc)
keeps_err T adopt.BlocksOfThisRun name old new js hand device other = other (λ e. cc)
keeps_err T adopt.Device name old new js hand device other = device refl
keeps_err T adopt.Memory name old new js hand device other = other (λ e. cc)

-- by whether it is the device's
pub device_or_other : {P : Type 0} (fault : AdoptFault) → (fault ≡ adopt.Device → P) → (fault ≢ adopt.Device → P) → P
device_or_other adopt.NotOnShelf device other = other (λ e. cc)
device_or_other adopt.NotOurVolume device other = other (λ e. cc)
device_or_other adopt.OtherMedia device other = other (λ e. cc)
device_or_other adopt.BlocksOfThisRun device other = other (λ e. cc)
device_or_other adopt.Device device other = device refl
device_or_other adopt.Memory device other = other (λ e. cc)

pub is_not_on_shelf : (fault : AdoptFault) → adopt_refusal fault ≡ VolumeNotOnShelf → fault ≡ adopt.NotOnShelf
is_not_on_shelf adopt.NotOnShelf e = refl
is_not_on_shelf adopt.NotOurVolume e = cc
is_not_on_shelf adopt.OtherMedia e = cc
is_not_on_shelf adopt.BlocksOfThisRun e = cc
is_not_on_shelf adopt.Device e = cc
is_not_on_shelf adopt.Memory e = cc
