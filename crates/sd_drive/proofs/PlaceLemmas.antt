-- What placing a piece keeps.
use Rattle.std.proofs.Common.{◌≡◌, ◌≢◌, ℕ, ◌+◌, ◌≤◌, List, [], ◌∷◌, ◌++◌, length, take, drop, map, refl, ap, sym, subst, Option, Some, None, Result, Ok, Err, ◌∙◌, arith, slice_get, slice_set}
use Rattle.std.proofs.lemmas.List.{map-append, append-nil}
use Rattle.std.specs.List.{AllByRecursion}
use Rattle.sd_base.specs.Limits.{most_block}
use Rattle.sd_block.proofs.ImageLemmas.{body_of_image}
use Rattle.sd_driver.specs.Meaning.{Meaning, IsHonest}
use Rattle.sd_driver.specs.Shelf.{Shelf, StillLasts}
use Rattle.sd_journal.specs.Journal.{Entry, placements, items_of, item_of, noted, live}
use Rattle.sd_lane.specs.declared.piece.Piece.{Piece}
use Rattle.sd_span.specs.declared.placement.Placement.{Placement}
use Rattle.sd_volume.specs.declared.volume.VolumeStatus.{VolumeStatus}
use Rattle.sd_volume.specs.declared.volume.VolumeStatus.TheVariants as status
use Rattle.sd_volume.specs.Append.{AddsBlock, KeepsBlocks}
use Rattle.sd_volume.specs.Image.{Block, volume_end}
use Rattle.sd_volume.specs.Volume.{VolumeView, StandsOn}
use Rattle.sd_volume.proofs.ImageLemmas.{placed_block_stands}
use Rattle.sd_drive.specs.declared.place.Placed.{Placed}
use Rattle.sd_drive.specs.declared.place.Placed.TheVariants.{At, NeedVolume, VolumeFull, VolumeError, Idle}
use Rattle.sd_drive.specs.View.{DriveIs, name_loaded, items, block_of_piece, block_length}
use Rattle.sd_drive.specs.Shelf.{bytes_at, image_at, block_at, block_of_entry, blocks, IsSafeIfSynced, LiesOn, IsOnLoaded, Kept, KeepsPieces}
use Rattle.sd_drive.specs.Moves.{TakesOn, IsWithin, PlacesOn, RoomAfter, Places, LimitAllows, hand_after, next_placement, with_block}
use Rattle.sd_drive.specs.Placing.{PlacesAt}
use Rattle.sd_drive.proofs.Places.{some_is, get_set_here, length_set, names_set, differ_same, loaded_same, loaded_at}
use Rattle.sd_drive.proofs.Stays.{Stands, same_bytes, front_kept, front_added, AllKeepFronts, fronts_but, still_on, all_safe, all_same_block, blocks_same, live_same}
use Rattle.sd_drive.proofs.LaidLemmas.{blocks_on_by, none_more, live_more, laid_kept, laid_added, all_laid_by, all_laid_set}
use Rattle.sd_drive.proofs.Kept.{still, kept_stand, all_more, all_as, lies_set, within_some, blocks_of}

-- ---- a block that was not placed

-- what lay before it on each volume stays
fronts_not_placed : (old new : Meaning) (vs : List VolumeView) (js : List Entry) (at : ℕ) (v w : VolumeView)
    → Kept old vs (Some at) js → slice_get vs at ≡ Some v → w.name ≡ v.name
    → (IsHonest old → KeepsBlocks v old.shelf w new.shelf)
    → (IsHonest old → (other : List ℕ) → other ≢ v.name → new.shelf.volume other ≡ old.shelf.volume other)
    → IsHonest old → AllKeepFronts old.shelf new.shelf vs
fronts_not_placed old new vs js at v w k there name keeps others o =
    let stand = kept_stand old vs (Some at) js k o in
    fronts_but old.shelf new.shelf vs at v k.differ stand there (front_kept old.shelf new.shelf v w (keeps o) name (stand at v there)) (λ other apart. same_bytes old.shelf new.shelf other (others o other apart))

pub kept_not_placed : (old new : Meaning) (vs : List VolumeView) (js : List Entry) (at : ℕ) (v w : VolumeView)
    → Kept old vs (Some at) js → slice_get vs at ≡ Some v → w.name ≡ v.name → w.end ≡ v.end
    → new.honest ≡ old.honest → new.loaded ≡ old.loaded → StillLasts old.shelf new.shelf → old.shelf.moment ≤ new.shelf.moment
    → (IsHonest old → KeepsBlocks v old.shelf w new.shelf)
    → (IsHonest old → (other : List ℕ) → other ≢ v.name → new.shelf.volume other ≡ old.shelf.volume other)
    → Kept new (slice_set vs at w) (Some at) js
kept_not_placed old new vs js at v w k there name end honest loaded later moment keeps others =
    let same = names_set vs at v w there name in
    record {
      tied = loaded ∙ k.tied ∙ sym (loaded_same vs (slice_set vs at w) (Some at) same);
      one_of = within_some vs (slice_set vs at w) (Some at) (length_set vs at w) k.one_of;
      differ = differ_same vs (slice_set vs at w) same k.differ;
      lie = all_as (LiesOn vs) (LiesOn (slice_set vs at w)) js (λ e lies. lies_set vs at v w e there name (omega arith) lies) k.lie;
      unsynced = subst (λ l. AllByRecursion (IsOnLoaded l) js) (sym (loaded_same vs (slice_set vs at w) (Some at) same)) k.unsynced;
      laid = λ h. (
          let o = still old new honest h in
          let fronts = fronts_not_placed old new vs js at v w k there name keeps others o in
          let stay = live_same old.shelf new.shelf js (all_same_block old.shelf new.shelf vs js fronts k.lie) in
          all_laid_set old.shelf new.shelf vs (live js) (live js) at v w k.differ there (λ other apart. same_bytes old.shelf new.shelf other (others o other apart)) (λ other apart. refl)
          (laid_kept old.shelf new.shelf (live js) v w name (blocks_on_by (block_at new.shelf) (block_at old.shelf) v.name (live js) stay) (keeps o) (k.laid o at v there)) (k.laid o));
      safe = λ h. (
          let o = still old new honest h in
          let fronts = fronts_not_placed old new vs js at v w k there name keeps others o in
          all_safe old.shelf new.shelf vs js fronts (still_on vs old.shelf new.shelf later) moment k.lie (k.safe o));
    }

-- ---- a block that was placed

placed_there : (old new : Shelf) (v w : VolumeView) (piece : Piece) (p : Placement) → v.status ≡ status.Append → Stands old v → AddsBlock (block_of_piece piece) v old w new → w.name ≡ v.name → p ≡ next_placement piece v
    → block_at new p ≡ block_of_piece piece
placed_there old new v w piece p takes s adds name is =
    let T : List ℕ → Type 0 = λ t. StandsOn v old s.label s.blocks t in
    let a = adds s.label s.blocks (subst T (s.stands.no_tail takes) s.stands) in
    let stands = placed_block_stands a.held.bytes s.label s.blocks [] (block_of_piece piece) [] a.image in
    let there : new.volume v.name ≡ Some a.held = ap new.volume (sym name) ∙ a.there in
    let q = next_placement piece v in
    let image : image_at new q ≡ take (24 + length piece.body.bytes) (drop (volume_end s.label s.blocks) a.held.bytes) =
    ap (λ o. bytes_at o v.end (block_length piece)) there ∙ ap (λ n. take (block_length piece) (drop n a.held.bytes)) s.stands.end_is in
    let body : drop 24 (image_at new q) ≡ piece.body.bytes = ap (drop 24) image ∙ body_of_image most_block _ piece.key (1 + length s.blocks) piece.body.bytes stands in
    ap (block_at new) is ∙ ap (λ (b : List ℕ). record { key = piece.key; body = b }) body

-- what lay before it on each volume stays
fronts_placed : (old new : Meaning) (vs : List VolumeView) (js : List Entry) (at : ℕ) (v w : VolumeView) (piece : Piece)
    → Kept old vs (Some at) js → slice_get vs at ≡ Some v → v.status ≡ status.Append → w.name ≡ v.name
    → (IsHonest old → AddsBlock (block_of_piece piece) v old.shelf w new.shelf)
    → (IsHonest old → (other : List ℕ) → other ≢ v.name → new.shelf.volume other ≡ old.shelf.volume other)
    → IsHonest old → AllKeepFronts old.shelf new.shelf vs
fronts_placed old new vs js at v w piece k there takes name adds others o =
    let stand = kept_stand old vs (Some at) js k o in
    fronts_but old.shelf new.shelf vs at v k.differ stand there (front_added old.shelf new.shelf v w (block_of_piece piece) (adds o) name takes (stand at v there)) (λ other apart. same_bytes old.shelf new.shelf other (others o other apart))

pub kept_placed : (old new : Meaning) (vs : List VolumeView) (js js' : List Entry) (at : ℕ) (v w : VolumeView) (piece : Piece) (p : Placement)
    → Kept old vs (Some at) js → slice_get vs at ≡ Some v → v.status ≡ status.Append → w ≡ with_block piece v → p ≡ next_placement piece v → js' ≡ js ++ noted p ∷ []
    → new.honest ≡ old.honest → new.loaded ≡ old.loaded → StillLasts old.shelf new.shelf → old.shelf.moment ≤ new.shelf.moment
    → (IsHonest old → AddsBlock (block_of_piece piece) v old.shelf w new.shelf)
    → (IsHonest old → (other : List ℕ) → other ≢ v.name → new.shelf.volume other ≡ old.shelf.volume other)
    → Kept new (slice_set vs at w) (Some at) js'
kept_placed old new vs js js' at v w piece p k there takes is place journal honest loaded later moment adds others =
    let name : w.name ≡ v.name = ap (λ (x : VolumeView). x.name) is in
    let end : w.end ≡ v.end + block_length piece = ap (λ (x : VolumeView). x.end) is in
    let same = names_set vs at v w there name in
    let vs' = slice_set vs at w in
    let on : name_loaded vs' (Some at) ≡ Some v.name = loaded_same vs vs' (Some at) same ∙ loaded_at vs at v there in
    let volume : p.volume ≡ v.name = ap (λ (x : Placement). x.volume) place in
    let lies : LiesOn vs' (noted p) = record {
      at = at;
      volume = w;
      there = get_set_here vs at v w there;
      name_is = volume ∙ sym name;
      within = λ live. (let a = ap (λ (x : Placement). x.start) place in let b = ap (λ (x : Placement). x.length) place in omega arith);
    } in
    let P : List Entry → Type 0 = λ l. Kept new vs' (Some at) l in
    subst P (sym journal) (record {
      tied = loaded ∙ k.tied ∙ sym (loaded_same vs vs' (Some at) same);
      one_of = within_some vs vs' (Some at) (length_set vs at w) k.one_of;
      differ = differ_same vs vs' same k.differ;
      lie = all_more (LiesOn vs') js (noted p) (all_as (LiesOn vs) (LiesOn vs') js (λ e l. lies_set vs at v w e there name (omega arith) l) k.lie) lies;
      unsynced = all_more (IsOnLoaded (name_loaded vs' (Some at))) js (noted p) (subst (λ l. AllByRecursion (IsOnLoaded l) js) (sym (loaded_same vs vs' (Some at) same)) k.unsynced) (λ e. on ∙ ap (λ n. Some n) (sym volume));
      laid = λ h. (
          let o = still old new honest h in
          let fronts = fronts_placed old new vs js at v w piece k there takes name adds others o in
          let stay = live_same old.shelf new.shelf js (all_same_block old.shelf new.shelf vs js fronts k.lie) in
          let last = placed_there old.shelf new.shelf v w piece p takes (kept_stand old vs (Some at) js k o at v there) (adds o) name place in
          all_laid_by new.shelf vs' (live js ++ p ∷ []) (live (js ++ noted p ∷ [])) (live_more js p)
          (all_laid_set old.shelf new.shelf vs (live js) (live js ++ p ∷ []) at v w k.differ there (λ other apart. same_bytes old.shelf new.shelf other (others o other apart)) (λ other apart. none_more other p (live js) (λ e. apart (sym e ∙ volume)))
          (laid_added old.shelf new.shelf (live js) v w piece p takes name place (adds o) (blocks_on_by (block_at new.shelf) (block_at old.shelf) v.name (live js) stay) last (k.laid o at v there)) (k.laid o)));
      safe = λ h. (
          let o = still old new honest h in
          let fronts = fronts_placed old new vs js at v w piece k there takes name adds others o in
          all_more (IsSafeIfSynced new.shelf) js (noted p) (all_safe old.shelf new.shelf vs js fronts (still_on vs old.shelf new.shelf later) moment k.lie (k.safe o)) (λ e. absurd cc));
    })

pub blocks_placed : (old new : Meaning) (vs : List VolumeView) (js js' : List Entry) (at : ℕ) (v w : VolumeView) (piece : Piece) (p : Placement)
    → Kept old vs (Some at) js → slice_get vs at ≡ Some v → v.status ≡ status.Append → w ≡ with_block piece v → p ≡ next_placement piece v → js' ≡ js ++ noted p ∷ []
    → (IsHonest old → AddsBlock (block_of_piece piece) v old.shelf w new.shelf)
    → (IsHonest old → (other : List ℕ) → other ≢ v.name → new.shelf.volume other ≡ old.shelf.volume other)
    → IsHonest old → blocks new.shelf js' None ≡ blocks old.shelf js (Some piece)
blocks_placed old new vs js js' at v w piece p k there takes is place journal adds others o =
    let name : w.name ≡ v.name = ap (λ (x : VolumeView). x.name) is in
    let fronts = fronts_placed old new vs js at v w piece k there takes name adds others o in
    let stay = blocks_same old.shelf new.shelf js (all_same_block old.shelf new.shelf vs js fronts k.lie) in
    let last = placed_there old.shelf new.shelf v w piece p takes (kept_stand old vs (Some at) js k o at v there) (adds o) name place in
    append-nil (map (block_of_entry new.shelf) js') ∙ ap (map (block_of_entry new.shelf)) journal ∙ map-append (block_of_entry new.shelf) js (noted p ∷ [])
    ∙ ap (λ l. l ++ Some (block_at new.shelf p) ∷ []) stay ∙ ap (λ (b : Block). map (block_of_entry old.shelf) js ++ Some b ∷ []) last

items_placed : (js js' : List Entry) (v : VolumeView) (piece : Piece) (p : Placement) → p ≡ next_placement piece v → js' ≡ js ++ noted p ∷ [] → items js' None ≡ items js (Some piece)
items_placed js js' v piece p place journal =
    append-nil (items_of (placements js')) ∙ ap (λ l. items_of (placements l)) journal
    ∙ ap items_of (map-append (λ (e : Entry). e.placement) js (noted p ∷ [])) ∙ map-append item_of (placements js) (p ∷ [])
    ∙ ap (λ x. items_of (placements js) ++ item_of x ∷ []) place

-- ---- whatever the answer

pub kept_placing : {E : Type 0} (result : Result Placed E) (old new : Meaning) (vs : List VolumeView) (l : Option ℕ) (js js' : List Entry) (at : ℕ) (v w : VolumeView) (piece : Piece) (limit : ℕ)
    → Kept old vs l js → l ≡ Some at → slice_get vs at ≡ Some v → v.status ≡ status.Append → PlacesOn result limit piece v w js js'
    → new.honest ≡ old.honest → new.loaded ≡ old.loaded → StillLasts old.shelf new.shelf → old.shelf.moment ≤ new.shelf.moment
    → (IsHonest old → PlacesAt result piece v old.shelf w new.shelf)
    → (IsHonest old → (other : List ℕ) → other ≢ v.name → new.shelf.volume other ≡ old.shelf.volume other)
    → Kept new (slice_set vs at w) l js'
kept_placing {E} result old new vs l js js' at v w piece limit k is there takes on honest loaded later moment stands others =
    let P : Option ℕ → Type 0 = λ x. Kept old vs x js in
    let Q : Option ℕ → Type 0 = λ x. Kept new (slice_set vs at w) x js' in
    subst Q (sym is) (from result on stands (subst P is k))
  where
    not_placed : (s : VolumeStatus) → Kept old vs (Some at) js → w ≡ record v { status = s } → js' ≡ js → (IsHonest old → KeepsBlocks v old.shelf w new.shelf) → Kept new (slice_set vs at w) (Some at) js'
    not_placed s kept e same keeps =
        let R : List Entry → Type 0 = λ x. Kept new (slice_set vs at w) (Some at) x in
        subst R (sym same) (kept_not_placed old new vs js at v w kept there (ap (λ (x : VolumeView). x.name) e) (ap (λ (x : VolumeView). x.end) e) honest loaded later moment keeps others)

    from : (r : Result Placed E) → PlacesOn r limit piece v w js js' → (IsHonest old → PlacesAt r piece v old.shelf w new.shelf) → Kept old vs (Some at) js → Kept new (slice_set vs at w) (Some at) js'
    from (Ok (At p)) o s kept = kept_placed old new vs js js' at v w piece p kept there takes o.2 o.1 o.3 honest loaded later moment s others
    from (Ok NeedVolume) o s kept = absurd o
    from (Ok VolumeFull) o s kept = not_placed status.Full kept o.0 o.1 s
    from (Ok VolumeError) o s kept = not_placed status.Error kept o.1 o.2 s
    from (Ok Idle) o s kept = absurd o
    from (Err error) o s kept = not_placed v.status kept o.1 o.2 s

pub pieces_placing : {E : Type 0} (result : Result Placed E) (old new : Meaning) (vs : List VolumeView) (l : Option ℕ) (js js' : List Entry) (hand hand' : Option Piece) (at : ℕ) (v w : VolumeView) (piece : Piece) (limit : ℕ)
    → Kept old vs l js → l ≡ Some at → slice_get vs at ≡ Some v → v.status ≡ status.Append → hand ≡ Some piece → hand' ≡ hand_after result hand → PlacesOn result limit piece v w js js'
    → new.honest ≡ old.honest
    → (IsHonest old → PlacesAt result piece v old.shelf w new.shelf)
    → (IsHonest old → (other : List ℕ) → other ≢ v.name → new.shelf.volume other ≡ old.shelf.volume other)
    → KeepsPieces old new js js' hand hand'
pieces_placing {E} result old new vs l js js' hand hand' at v w piece limit k is there takes full after on honest stands others =
    let P : Option ℕ → Type 0 = λ x. Kept old vs x js in
    let Q : Option Piece → Type 0 = λ h. KeepsPieces old new js js' h (hand_after result h) in
    let R : Option Piece → Type 0 = λ h. KeepsPieces old new js js' hand h in
    subst R (sym after) (subst Q (sym full) (from result on stands (subst P is k)))
  where
    not_placed : (s : VolumeStatus) → Kept old vs (Some at) js → w ≡ record v { status = s } → js' ≡ js → (IsHonest old → KeepsBlocks v old.shelf w new.shelf) → KeepsPieces old new js js' (Some piece) (Some piece)
    not_placed s kept e same keeps =
        let R : List Entry → Type 0 = λ x. KeepsPieces old new js x (Some piece) (Some piece) in
        subst R (sym same) (record {
          honest = honest;
          items = refl;
          blocks = λ o. blocks_of old.shelf new.shelf js js (Some piece) (blocks_same old.shelf new.shelf js (all_same_block old.shelf new.shelf vs js (fronts_not_placed old new vs js at v w kept there (ap (λ (x : VolumeView). x.name) e) keeps others o) kept.lie));
        })

    from : (r : Result Placed E) → PlacesOn r limit piece v w js js' → (IsHonest old → PlacesAt r piece v old.shelf w new.shelf) → Kept old vs (Some at) js → KeepsPieces old new js js' (Some piece) (hand_after r (Some piece))
    from (Ok (At p)) o s kept = record {
      honest = honest;
      items = items_placed js js' v piece p o.1 o.3;
      blocks = blocks_placed old new vs js js' at v w piece p kept there takes o.2 o.1 o.3 s others;
    }
    from (Ok NeedVolume) o s kept = absurd o
    from (Ok VolumeFull) o s kept = not_placed status.Full kept o.0 o.1 s
    from (Ok VolumeError) o s kept = not_placed status.Error kept o.1 o.2 s
    from (Ok Idle) o s kept = absurd o
    from (Err error) o s kept = not_placed v.status kept o.1 o.2 s

-- a relation of the drive's parts, as one of the whole drive
pub places_of : {D E : Type 0} (result : Result Placed E) (old new : DriveIs D) (at : ℕ) (v w : VolumeView) (piece : Piece)
    → old.hand ≡ Some piece → TakesOn old.volumes old.loaded old.pool at v → PlacesOn result old.limits.volume piece v w old.journal new.journal
    → RoomAfter result piece.key old.ready new.ready
    → new ≡ record old { device = new.device; volumes = slice_set old.volumes at w; hand = hand_after result old.hand; journal = new.journal; ready = new.ready }
    → Places result old new
places_of (Ok (At p)) old new at v w piece full takes on room is = record { piece = piece; at = at; volume = v; after = w; ready = record { hand = full; takes = takes }; on = on; room = room; becomes = is }
places_of (Ok NeedVolume) old new at v w piece full takes on room is = absurd on
places_of (Ok VolumeFull) old new at v w piece full takes on room is = record { piece = piece; at = at; volume = v; after = w; ready = record { hand = full; takes = takes }; on = on; room = room; becomes = is }
places_of (Ok VolumeError) old new at v w piece full takes on room is = record { piece = piece; at = at; volume = v; after = w; ready = record { hand = full; takes = takes }; on = on; room = room; becomes = is }
places_of (Ok Idle) old new at v w piece full takes on room is = absurd on
places_of (Err error) old new at v w piece full takes on room is = record { piece = piece; at = at; volume = v; after = w; ready = record { hand = full; takes = takes }; on = on; room = room; becomes = is }

pub takes_here : (vs : List VolumeView) (l : Option ℕ) (pool : Option (List ℕ)) (at : ℕ) (v : VolumeView) → (volume : VolumeView) × TakesOn vs l pool at volume → slice_get vs at ≡ Some v → TakesOn vs l pool at v
takes_here vs l pool at v takes there =
    let one : takes.0 ≡ v = some_is (sym takes.1.there ∙ there) in
    subst (TakesOn vs l pool at) one takes.1

-- the piece in the hand and the volume that takes it are those of any that are ready
pub limit_allows : {D : Type 0} (d : DriveIs D) (piece : Piece) (at : ℕ) (v : VolumeView) → d.hand ≡ Some piece → TakesOn d.volumes d.loaded d.pool at v → IsWithin d.limits.volume piece v → LimitAllows d
limit_allows d piece at v full takes within = (piece, at, v, record { hand = full; takes = takes }, within)

pub limit_allowed : {D : Type 0} (d : DriveIs D) (piece : Piece) (at : ℕ) (v : VolumeView) → d.hand ≡ Some piece → TakesOn d.volumes d.loaded d.pool at v → LimitAllows d → IsWithin d.limits.volume piece v
limit_allowed d piece at v full takes allows =
    let other = allows.2 in
    let r = allows.3 in
    let one : allows.0 ≡ piece = some_is (sym r.hand ∙ full) in
    let place : allows.1 ≡ at = some_is (sym r.takes.loaded_is ∙ takes.loaded_is) in
    let same : other ≡ v = some_is (sym r.takes.there ∙ ap (slice_get d.volumes) place ∙ takes.there) in
    let within : other.end + block_length allows.0 ≤ d.limits.volume = allows.4 in
    let a : other.end ≡ v.end = ap (λ (x : VolumeView). x.end) same in
    let b : block_length allows.0 ≡ block_length piece = ap block_length one in
    omega arith
