-- What a sync keeps, and what taking the loaded volume out does.
use Rattle.std.proofs.Common.{◌≡◌, ◌≢◌, ◌⊎◌, inl, inr, ℕ, ◌+◌, ◌≤◌, ◌<◌, Bool, true, false, ◌&&◌, ◌||◌, if◌then◌else◌, List, [], ◌∷◌, length, get_or, take, refl, ap, ap₂, sym, subst, map, Option, Some, None, ◌∙◌, arith, slice_get, slice_set}
use Rattle.std.proofs.lemmas.Option.{slice_get_read}
use Rattle.std.proofs.Math.Seq.{take-length}
use Rattle.std.specs.Prelude.{IsTrue, IfSome}
use Rattle.std.specs.List.{AllByRecursion}
use Rattle.std.specs.Option.{option_map_or}
use Rattle.std.specs.Str.{bytes_eq}
use Rattle.std.proofs.lemmas.Slice.Eq.{bytes_eq-Decides}
use Rattle.sd_base.specs.declared.number.SessionKey.{SessionKey}
use Rattle.sd_driver.specs.Meaning.{Meaning, IsHonest}
use Rattle.sd_driver.specs.Shelf.{Shelf, Held, SameShelf, Passes, StillLasts, Syncs, MaySync, stable_bytes}
use Rattle.sd_driver.proofs.Lasting.{Passes-later, Lasts-begin, BeginsWith-own_take, BeginsWith-trans, BeginsWith-same}
use Rattle.sd_driver.proofs.Names.{name_cases}
use Rattle.sd_journal.specs.Journal.{Entry, placements, live, settled, settled_one, awaits_sync, any_awaits_sync, is_unsynced, is_purged}
use Rattle.sd_journal.specs.declared.mark.Mark.{Mark}
use Rattle.sd_journal.specs.declared.mark.Mark.TheVariants as mark
use Rattle.sd_lane.specs.declared.piece.Piece.{Piece}
use Rattle.sd_volume.specs.declared.volume.VolumeStatus.TheVariants as status
use Rattle.sd_span.specs.declared.placement.Placement.{Placement}
use Rattle.sd_volume.specs.Volume.{VolumeView}
use Rattle.sd_drive.specs.View.{DriveIs, name_loaded}
use Rattle.sd_drive.specs.Shelf.{block_at, block_of_entry, IsSafe, IsSafeIfSynced, LiesOn, IsOnLoaded, Kept, KeepsPieces}
use Rattle.sd_drive.specs.Moves.{settled_on}
use Rattle.sd_drive.proofs.Places.{some_is, names_set, differ_same, loaded_at}
use Rattle.sd_drive.proofs.Stays.{AllStand, front_of, SameBytes, same_bytes, fronts_same, still_on, all_safe, all_same_block, blocks_same}
use Rattle.sd_drive.proofs.LaidLemmas.{laid_same, laid_shut, all_laid_same, all_laid_by, all_laid_set}
use Rattle.sd_drive.proofs.Kept.{still, kept_stand, all_as, all_map, lies_set, blocks_of, items_by}

-- ---- bytes stay

loaded_cases : (l : Option (List ℕ)) (n : List ℕ) → (l ≡ Some n) ⊎ (l ≢ Some n)
loaded_cases None n = inr (λ e. absurd (cc e))
loaded_cases (Some m) n = elim (name_cases m n) [ inl e ↦ inl (ap (λ x. Some x) e) | inr o ↦ inr (λ e. o (some_is e)) ]

pub sync_bytes : (loaded : Option (List ℕ)) (old new : Shelf) → Syncs loaded old new → (name : List ℕ) → SameBytes old new name
sync_bytes loaded old new syncs name = λ held there. elim (loaded_cases loaded name) [
  | inl e ↦ (let h = syncs.here name held e there in (h.0, h.2, ap (λ (x : Held). x.bytes) h.1))
  | inr o ↦ (held, syncs.others name o ∙ there, refl)
]

pub may_sync_bytes : (loaded : Option (List ℕ)) (old new : Shelf) → MaySync loaded old new → (name : List ℕ) → SameBytes old new name
may_sync_bytes loaded old new syncs name = λ held there. elim (loaded_cases loaded name) [
  | inl e ↦ (let h = syncs.here name held e there in (h.0, h.2, h.1.0))
  | inr o ↦ (held, syncs.others name o ∙ there, refl)
]

pub then_same : (old mid new : Shelf) (name : List ℕ) → SameBytes old mid name → SameShelf mid new → SameBytes old new name
then_same old mid new name bytes same = λ held there. (let h = bytes held there in (h.0, same name ∙ h.1, h.2))

-- ---- marks

settled_mark : (mark : Mark) (e : Entry) (b : Bool) → b ≡ true → (if b then record e { mark = mark } else e) ≡ record e { mark = mark }
settled_mark mark e true is = refl
settled_mark mark e false is = cc

settled_other : (mark : Mark) (e : Entry) (b : Bool) → b ≡ false → (if b then record e { mark = mark } else e) ≡ e
settled_other mark e true is = cc
settled_other mark e false is = refl

-- an entry that awaits a sync of a volume lies on it
on_volume : (name : List ℕ) (e : Entry) → awaits_sync name e ≡ true → e.placement.volume ≡ name
on_volume name e awaits = (bytes_eq-Decides e.placement.volume name).0 (second (is_unsynced e.mark) (bytes_eq e.placement.volume name) awaits)
  where
    second : (a b : Bool) → (a && b) ≡ true → b ≡ true
    second true b h = h
    second false b h = cc

-- and isn't gone
awaits_live : (name : List ℕ) (e : Entry) → awaits_sync name e ≡ true → is_purged e.mark ≡ false
awaits_live name e awaits = there e.mark (first (is_unsynced e.mark) (bytes_eq e.placement.volume name) awaits)
  where
    first : (a b : Bool) → (a && b) ≡ true → a ≡ true
    first true b h = refl
    first false b h = cc

    there : (m : Mark) → is_unsynced m ≡ true → is_purged m ≡ false
    there mark.Unsynced u = refl
    there mark.Synced u = refl
    there mark.Lost u = refl
    there mark.Purged u = cc

-- one that isn't synced and lies on it awaits that
awaits_there : (name : List ℕ) (e : Entry) → e.mark ≡ mark.Unsynced → e.placement.volume ≡ name → awaits_sync name e ≡ true
awaits_there name e unsynced on =
    ap (λ m. is_unsynced m && bytes_eq e.placement.volume name) unsynced ∙ (bytes_eq-Decides e.placement.volume name).1 on

-- with no entry that awaits it a sync settles nothing
pub settled_none : (mark : Mark) (name : List ℕ) (es : List Entry) → any_awaits_sync name es ≡ false → settled mark name es ≡ es
settled_none mark name [] quiet = refl
settled_none mark name (e ∷ es) quiet =
    let h = settled_other mark e (awaits_sync name e) (first (awaits_sync name e) (any_awaits_sync name es) quiet) in
    let t = settled_none mark name es (second (awaits_sync name e) (any_awaits_sync name es) quiet) in
    ap (λ x. x ∷ settled mark name es) h ∙ ap (λ l. e ∷ l) t
  where
    first : (a b : Bool) → (a || b) ≡ false → a ≡ false
    first true b h = cc
    first false b h = refl

    second : (a b : Bool) → (a || b) ≡ false → b ≡ false
    second true b h = cc
    second false b h = h

-- if no entry awaits a sync of the loaded volume, none is unsynced
pub none_unsynced : (loaded : Option (List ℕ)) (es : List Entry) → option_map_or (λ name. any_awaits_sync name es) loaded false ≡ false → AllByRecursion (IsOnLoaded loaded) es → AllByRecursion (λ e. e.mark ≢ mark.Unsynced) es
none_unsynced None [] quiet on = on
none_unsynced None (e ∷ es) quiet on = (λ u. absurd (cc (on.0 u)), none_unsynced None es refl on.1)
none_unsynced (Some name) [] quiet on = on
none_unsynced (Some name) (e ∷ es) quiet on = (
  λ u. (let t = awaits_there name e u (sym (some_is (on.0 u))) in let f = first (awaits_sync name e) (any_awaits_sync name es) quiet in cc),
  none_unsynced (Some name) es (second (awaits_sync name e) (any_awaits_sync name es) quiet) on.1,
)
  where
    first : (a b : Bool) → (a || b) ≡ false → a ≡ false
    first true b h = cc
    first false b h = refl

    second : (a b : Bool) → (a || b) ≡ false → b ≡ false
    second true b h = cc
    second false b h = h

on_any : (loaded : Option (List ℕ)) (es : List Entry) → AllByRecursion (λ (e : Entry). e.mark ≢ mark.Unsynced) es → AllByRecursion (IsOnLoaded loaded) es
on_any loaded es none = all_as (λ (e : Entry). e.mark ≢ mark.Unsynced) (IsOnLoaded loaded) es (λ e n u. absurd (n u)) none

settled_case : (mark : Mark) (name : List ℕ) (P : Entry → Type 0) (e : Entry) → (awaits_sync name e ≡ true → P (record e { mark = mark })) → (awaits_sync name e ≡ false → P e) → P (settled_one mark name e)
settled_case mark name P e hit other = from (awaits_sync name e) refl
  where
    from : (b : Bool) → awaits_sync name e ≡ b → P (settled_one mark name e)
    from true is = subst P (sym (settled_mark mark e (awaits_sync name e) is)) (hit is)
    from false is = subst P (sym (settled_other mark e (awaits_sync name e) is)) (other is)

-- none is unsynced once a sync of the volume is over on which all of them lie
settled_all : (m : Mark) (name : List ℕ) (es : List Entry) → m ≢ mark.Unsynced → AllByRecursion (IsOnLoaded (Some name)) es → AllByRecursion (λ e. e.mark ≢ mark.Unsynced) (settled m name es)
settled_all m name es other on = all_map (IsOnLoaded (Some name)) (λ e. e.mark ≢ mark.Unsynced) (settled_one m name) es
    (λ e o. settled_case m name (λ x. x.mark ≢ mark.Unsynced) e (λ awaits. other) (λ quiet u. (let t = awaits_there name e u (sym (some_is (o u))) in cc))) on

settled_lie : (m : Mark) (name : List ℕ) (vs : List VolumeView) (es : List Entry) → AllByRecursion (LiesOn vs) es → AllByRecursion (LiesOn vs) (settled m name es)
settled_lie m name vs es lie = all_map (LiesOn vs) (LiesOn vs) (settled_one m name) es
    (λ e l. settled_case m name (LiesOn vs) e (λ awaits. record { at = l.at; volume = l.volume; there = l.there; name_is = l.name_is; within = λ is. l.within (awaits_live name e awaits) }) (λ quiet. l)) lie

-- what is settled as lost isn't synced
lost_safe : (shelf : Shelf) (name : List ℕ) (es : List Entry) → AllByRecursion (IsSafeIfSynced shelf) es → AllByRecursion (IsSafeIfSynced shelf) (settled mark.Lost name es)
lost_safe shelf name es safe = all_map (IsSafeIfSynced shelf) (IsSafeIfSynced shelf) (settled_one mark.Lost name) es
    (λ e h. settled_case mark.Lost name (IsSafeIfSynced shelf) e (λ awaits u. absurd (cc u)) (λ quiet. h)) safe

-- marks alone change, and none of a block that is gone, or to that
pub record SameGone (js js' : List Entry) : Type 0 where
  pub placed : placements js' ≡ placements js
  pub left : live js' ≡ live js
  pub blocks : (shelf : Shelf) → map (block_of_entry shelf) js' ≡ map (block_of_entry shelf) js

pub same_gone : (js : List Entry) → SameGone js js
same_gone js = record { placed = refl; left = refl; blocks = λ shelf. refl }

gone_front : (e e' : Entry) (js js' : List Entry) → (e'.placement ≡ e.placement) × (is_purged e'.mark ≡ is_purged e.mark) → SameGone js js' → SameGone (e ∷ js) (e' ∷ js')
gone_front e e' js js' same rest = record {
  placed = ap₂ (λ p ps. p ∷ ps) same.0 rest.placed;
  left = ap₂ (λ (b : Bool) (p : Placement). if b then live js' else p ∷ live js') same.1 same.0 ∙ ap (λ l. if is_purged e.mark then l else e.placement ∷ l) rest.left;
  blocks = λ shelf. ap₂ (λ (b : Bool) (p : Placement). (if b then None else Some (block_at shelf p)) ∷ map (block_of_entry shelf) js') same.1 same.0
      ∙ ap (λ l. block_of_entry shelf e ∷ l) (rest.blocks shelf);
}

settled_gone : (m : Mark) (name : List ℕ) (es : List Entry) → is_purged m ≡ false → SameGone es (settled m name es)
settled_gone m name [] other = same_gone []
settled_gone m name (e ∷ es) other =
    gone_front e (settled_one m name e) es (settled m name es)
    (settled_case m name (λ x. (x.placement ≡ e.placement) × (is_purged x.mark ≡ is_purged e.mark)) e (λ awaits. (refl, other ∙ sym (awaits_live name e awaits))) (λ quiet. (refl, refl)))
    (settled_gone m name es other)

-- the name of what is loaded
pub loaded_name_is : (vs : List VolumeView) (l : Option ℕ) (at : ℕ) (v : VolumeView) → l ≡ Some at → slice_get vs at ≡ Some v → name_loaded vs l ≡ Some v.name
loaded_name_is vs l at v is there = ap (name_loaded vs) is ∙ loaded_at vs at v there

pub settled_is : (m : Mark) (vs : List VolumeView) (l : Option ℕ) (js : List Entry) (at : ℕ) (v : VolumeView) → l ≡ Some at → slice_get vs at ≡ Some v → settled_on m (name_loaded vs l) js ≡ settled m v.name js
settled_is m vs l js at v is there = ap (λ o. settled_on m o js) (loaded_name_is vs l at v is there)

pub awaits_is : (vs : List VolumeView) (l : Option ℕ) (js : List Entry) (at : ℕ) (v : VolumeView) → l ≡ Some at → slice_get vs at ≡ Some v → option_map_or (λ name. any_awaits_sync name js) (name_loaded vs l) false ≡ any_awaits_sync v.name js
awaits_is vs l js at v is there = ap (λ o. option_map_or (λ name. any_awaits_sync name js) o false) (loaded_name_is vs l at v is there)

-- the loaded volume, which is at its place
pub loaded_read : (vs : List VolumeView) (l : Option ℕ) (at : ℕ) (v : VolumeView) → IfSome l (λ n. n < length vs) → l ≡ Some at → v ≡ get_or vs at v → slice_get vs at ≡ Some v
loaded_read vs l at v within is read =
    let P : Option ℕ → Type 0 = λ o. IfSome o (λ n. n < length vs) in
    slice_get_read vs (length vs) at v refl (subst P is within) read

-- ---- a sync that succeeded

-- all of the loaded volume is stable, and lasts from now on
safe_now : (old new : Shelf) (loaded : Option (List ℕ)) (name : List ℕ) (vs : List VolumeView) (e : Entry) → Passes old new → loaded ≡ Some name → Syncs loaded old new
    → AllStand old vs → LiesOn vs e → is_purged e.mark ≡ false → e.placement.volume ≡ name → IsSafe new e.placement
safe_now old new loaded name vs e passes is syncs stand lies live on =
    let p = e.placement in
    let s = stand lies.at lies.volume lies.there in
    let f = front_of old lies.volume s.label s.blocks s.tail s.stands in
    let h = syncs.here p.volume f.held (is ∙ ap (λ n. Some n) (sym on)) (ap old.volume lies.name_is ∙ f.there) in
    let bytes : h.0.bytes ≡ f.held.bytes = ap (λ (x : Held). x.bytes) h.1 in
    let stable : h.0.stable ≡ length f.held.bytes = ap (λ (x : Held). x.stable) h.1 in
    let whole : stable_bytes (new.volume p.volume) ≡ h.0.bytes =
    ap stable_bytes h.2 ∙ ap (λ n. take n h.0.bytes) (stable ∙ sym (ap length bytes)) ∙ take-length h.0.bytes in
    record {
      held = h.0;
      there = h.2;
      stable = (let w = lies.within live in let l = f.within in omega arith);
      since = new.moment;
      past = omega arith;
      lasts = Lasts-begin p.volume (take (p.start + p.length) h.0.bytes) old new passes
          (BeginsWith-trans (stable_bytes (new.volume p.volume)) h.0.bytes (take (p.start + p.length) h.0.bytes) (BeginsWith-same _ _ whole) (BeginsWith-own_take h.0.bytes (p.start + p.length)));
    }

-- what a sync settles is safe, and what was synced before still is
synced_safe : (old new : Shelf) (loaded : Option (List ℕ)) (name : List ℕ) (vs : List VolumeView) (es : List Entry) → Passes old new → loaded ≡ Some name → Syncs loaded old new
    → AllStand old vs → AllByRecursion (LiesOn vs) es → AllByRecursion (IsSafeIfSynced new) es → AllByRecursion (IsSafeIfSynced new) (settled mark.Synced name es)
synced_safe old new loaded name vs [] passes is syncs stand lie safe = safe
synced_safe old new loaded name vs (e ∷ es) passes is syncs stand lie safe = (
  settled_case mark.Synced name (IsSafeIfSynced new) e
      (λ awaits s. safe_now old new loaded name vs e passes is syncs stand lie.0 (awaits_live name e awaits) (on_volume name e awaits)) (λ quiet. safe.0),
  synced_safe old new loaded name vs es passes is syncs stand lie.1 safe.1,
)

pub kept_synced : (old new : Meaning) (vs : List VolumeView) (l : Option ℕ) (js js' : List Entry) (at : ℕ) (v : VolumeView)
    → Kept old vs l js → l ≡ Some at → slice_get vs at ≡ Some v → js' ≡ settled mark.Synced v.name js
    → new.honest ≡ old.honest → new.loaded ≡ old.loaded → Passes old.shelf new.shelf → StillLasts old.shelf new.shelf
    → (IsHonest old → Syncs old.loaded old.shelf new.shelf)
    → Kept new vs l js'
kept_synced old new vs l js js' at v k is there journal honest loaded passes later syncs =
    let on = loaded_name_is vs l at v is there in
    let P : List Entry → Type 0 = λ x. Kept new vs l x in
    subst P (sym journal) (record {
      tied = loaded ∙ k.tied;
      one_of = k.one_of;
      differ = k.differ;
      lie = settled_lie mark.Synced v.name vs js k.lie;
      unsynced = on_any (name_loaded vs l) (settled mark.Synced v.name js) (settled_all mark.Synced v.name js (λ e. cc) (subst (λ o. AllByRecursion (IsOnLoaded o) js) on k.unsynced));
      laid = λ h. (
          let o = still old new honest h in
          all_laid_by new.shelf vs (live js) (live (settled mark.Synced v.name js)) (settled_gone mark.Synced v.name js refl).left
          (all_laid_same old.shelf new.shelf vs (live js) (λ place w here. sync_bytes old.loaded old.shelf new.shelf (syncs o) w.name) (k.laid o)));
      safe = λ h. (
          let o = still old new honest h in
          let stand = kept_stand old vs l js k o in
          let fronts = fronts_same old.shelf new.shelf vs stand (λ place w here. sync_bytes old.loaded old.shelf new.shelf (syncs o) w.name) in
          synced_safe old.shelf new.shelf old.loaded v.name vs js passes (k.tied ∙ on) (syncs o) stand k.lie
          (all_safe old.shelf new.shelf vs js fronts (still_on vs old.shelf new.shelf later) (Passes-later old.shelf new.shelf passes) k.lie (k.safe o)));
    })

-- ---- one that failed, after which the volume is out

pub kept_failed_sync : (old mid new : Meaning) (vs : List VolumeView) (l : Option ℕ) (js js' : List Entry) (at : ℕ) (v w : VolumeView)
    → Kept old vs l js → l ≡ Some at → slice_get vs at ≡ Some v → w ≡ record v { status = status.Error } → js' ≡ settled mark.Lost v.name js
    → mid.honest ≡ old.honest → new.honest ≡ mid.honest → new.loaded ≡ None → StillLasts old.shelf mid.shelf → StillLasts mid.shelf new.shelf → old.shelf.moment ≤ new.shelf.moment
    → (IsHonest old → MaySync old.loaded old.shelf mid.shelf) → (IsHonest mid → SameShelf mid.shelf new.shelf)
    → Kept new (slice_set vs at w) None js'
kept_failed_sync old mid new vs l js js' at v w k on_it there is journal honest honest' loaded later later' moment syncs same =
    let on = loaded_name_is vs l at v on_it there in
    let vs' = slice_set vs at w in
    let name : w.name ≡ v.name = ap (λ (x : VolumeView). x.name) is in
    let end : w.end ≡ v.end = ap (λ (x : VolumeView). x.end) is in
    let P : List Entry → Type 0 = λ x. Kept new vs' None x in
    subst P (sym journal) (record {
      tied = loaded;
      one_of = tt;
      differ = differ_same vs vs' (names_set vs at v w there name) k.differ;
      lie = all_as (LiesOn vs) (LiesOn vs') (settled mark.Lost v.name js) (λ e lies. lies_set vs at v w e there name (omega arith) lies) (settled_lie mark.Lost v.name vs js k.lie);
      unsynced = on_any None (settled mark.Lost v.name js) (settled_all mark.Lost v.name js (λ e. cc) (subst (λ o. AllByRecursion (IsOnLoaded o) js) on k.unsynced));
      laid = λ h. (
          let m = still mid new honest' h in
          let o = still old mid honest m in
          let bytes : (n : List ℕ) → SameBytes old.shelf new.shelf n = λ n. then_same old.shelf mid.shelf new.shelf n (may_sync_bytes old.loaded old.shelf mid.shelf (syncs o) n) (same m) in
          all_laid_by new.shelf vs' (live js) (live (settled mark.Lost v.name js)) (settled_gone mark.Lost v.name js refl).left
          (all_laid_set old.shelf new.shelf vs (live js) (live js) at v w k.differ there (λ other apart. bytes other) (λ other apart. refl)
          (laid_shut new.shelf (live js) v w status.Error is (λ e. cc) (laid_same old.shelf new.shelf (live js) v (bytes v.name) (k.laid o at v there))) (k.laid o)));
      safe = λ h. (
          let m = still mid new honest' h in
          let o = still old mid honest m in
          let bytes : (n : List ℕ) → SameBytes old.shelf new.shelf n = λ n. then_same old.shelf mid.shelf new.shelf n (may_sync_bytes old.loaded old.shelf mid.shelf (syncs o) n) (same m) in
          let fronts = fronts_same old.shelf new.shelf vs (kept_stand old vs l js k o) (λ place x here. bytes x.name) in
          lost_safe new.shelf v.name js
          (all_safe old.shelf new.shelf vs js fronts (still_on vs old.shelf new.shelf (λ since n b lasts. later' since n b (later since n b lasts))) moment k.lie (k.safe o)));
    })

-- the pieces, while bytes stay and marks alone change
pub pieces_marked : (old new : Meaning) (vs : List VolumeView) (l : Option ℕ) (js js' : List Entry) (hand : Option Piece)
    → Kept old vs l js → SameGone js js' → new.honest ≡ old.honest → (IsHonest old → (n : List ℕ) → SameBytes old.shelf new.shelf n)
    → KeepsPieces old new js js' hand hand
pieces_marked old new vs l js js' hand k marks honest bytes = record {
  honest = honest;
  items = items_by js js' hand marks.placed;
  blocks = λ o. (
      let fronts = fronts_same old.shelf new.shelf vs (kept_stand old vs l js k o) (λ place w here. bytes o w.name) in
      blocks_of old.shelf new.shelf js js' hand (marks.blocks new.shelf ∙ blocks_same old.shelf new.shelf js (all_same_block old.shelf new.shelf vs js fronts k.lie)));
}

-- ---- what is loaded is another, and nothing is unsynced

pub kept_loading : (old new : Meaning) (vs : List VolumeView) (l l' : Option ℕ) (js : List Entry)
    → Kept old vs l js → AllByRecursion (λ e. e.mark ≢ mark.Unsynced) js → new.loaded ≡ name_loaded vs l' → IfSome l' (λ at. at < length vs)
    → new.honest ≡ old.honest → StillLasts old.shelf new.shelf → old.shelf.moment ≤ new.shelf.moment → (IsHonest old → SameShelf old.shelf new.shelf) → Kept new vs l' js
kept_loading old new vs l l' js k none loaded within honest later moment same = record {
  tied = loaded;
  one_of = within;
  differ = k.differ;
  lie = k.lie;
  unsynced = on_any (name_loaded vs l') js none;
  laid = λ h. (
      let o = still old new honest h in
      all_laid_same old.shelf new.shelf vs (live js) (λ place w here. same_bytes old.shelf new.shelf w.name (same o w.name)) (k.laid o));
  safe = λ h. (
      let o = still old new honest h in
      let fronts = fronts_same old.shelf new.shelf vs (kept_stand old vs l js k o) (λ place w here. same_bytes old.shelf new.shelf w.name (same o w.name)) in
      all_safe old.shelf new.shelf vs js fronts (still_on vs old.shelf new.shelf later) moment k.lie (k.safe o));
}

-- with nothing loaded, nothing is unsynced
pub none_loaded : (device : Meaning) (vs : List VolumeView) (js : List Entry) → Kept device vs None js → AllByRecursion (λ e. e.mark ≢ mark.Unsynced) js
none_loaded device vs js k = none_unsynced None js refl k.unsynced

-- a drive with another list for its journal
pub with_journal : {D : Type 0} (d : DriveIs D) (js : List Entry) → js ≡ d.journal → d ≡ record d { journal = js }
with_journal d js same = ap (λ j. record d { journal = j }) (sym same)

-- a drive whose device and journal are others
pub journal_is : {D : Type 0} (d : DriveIs D) (device : D) (js js' : List Entry) (ready : List SessionKey) → js' ≡ js → ready ≡ d.ready
    → ◌≡◌ {A = DriveIs D} (record d { device = device; journal = js'; ready = ready }) (record d { device = device; journal = js })
journal_is d device js js' ready same room = ap₂ (λ (j : List Entry) (r : List SessionKey). record d { device = device; journal = j; ready = r }) same room

-- one of whose volumes too is another
pub parts_are : {D : Type 0} (d : DriveIs D) (device : D) (js js' : List Entry) (ready : List SessionKey) (at : ℕ) (w w' : VolumeView) → w' ≡ w → js' ≡ js → ready ≡ d.ready
    → ◌≡◌ {A = DriveIs D} (record d { device = device; volumes = slice_set d.volumes at w'; journal = js'; ready = ready }) (record d { device = device; volumes = slice_set d.volumes at w; journal = js })
parts_are d device js js' ready at w w' volume journal room =
    ap (λ x. record d { device = device; volumes = slice_set d.volumes at x; journal = js'; ready = ready }) volume
    ∙ ap₂ (λ (j : List Entry) (r : List SessionKey). record d { device = device; volumes = slice_set d.volumes at w; journal = j; ready = r }) journal room

-- what a sync that is over leaves
pub settled_by : (m : Mark) (name : List ℕ) (js js' : List Entry) → js' ≡ settled m name js → is_purged m ≡ false → SameGone js js'
settled_by m name js js' is other = subst (SameGone js) (sym is) (settled_gone m name js other)

pub true_false : {P : Type 0} → true ≡ false → P
true_false e = absurd (cc e)

pub pieces_trans : (a b c : Meaning) (js js' js'' : List Entry) (hand hand' hand'' : Option Piece) → KeepsPieces a b js js' hand hand' → KeepsPieces b c js' js'' hand' hand'' → KeepsPieces a c js js'' hand hand''
pieces_trans a b c js js' js'' hand hand' hand'' one two = record {
  honest = two.honest ∙ one.honest;
  items = two.items ∙ one.items;
  blocks = λ o. two.blocks (subst IsTrue (sym one.honest) o) ∙ one.blocks o;
}

-- the pieces over calls that change no volume
pub pieces_same : (old new : Meaning) (vs : List VolumeView) (l : Option ℕ) (js : List Entry) (hand : Option Piece)
    → Kept old vs l js → new.honest ≡ old.honest → (IsHonest old → SameShelf old.shelf new.shelf) → KeepsPieces old new js js hand hand
pieces_same old new vs l js hand k honest same = pieces_marked old new vs l js js hand k (same_gone js) honest (λ o n. same_bytes old.shelf new.shelf n (same o n))
