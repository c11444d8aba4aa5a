-- What each call of a drive leaves of it: its pieces, its names, and who fails.
use Rattle.std.proofs.Common.{◌≡◌, ◌⊎◌, ℕ, refl, sym, ap, ap₂, subst, ◌∙◌, inl, inr, true, false, true≢false, Bool, Option, Some, None, Result, Ok, Err, List, [], ◌∷◌, ◌++◌, slice_get, slice_set, append-nil}
use Rattle.std.specs.Prelude.{◌||◌, ◌&&◌}
use Rattle.std.proofs.lemmas.Bool.{and_parts, cond-true, cond-false}
use Rattle.std.proofs.lemmas.List.Folds.{list_any-append}
use Rattle.sd_base.specs.Key.{is_key}
use Rattle.sd_base.specs.declared.number.SessionKey.{SessionKey}
use Rattle.sd_drive.specs.Moves.{PlacesPiece, PlacesOn, Syncs, Unmounts, Mounts, FailsToSync, AddsVolume, AddsNone, EmptiesVolume, settled_on, synced_journal}
use Rattle.sd_drive.specs.View.{DriveIs, items, name_loaded}
use Rattle.sd_drive.specs.declared.place.Placed.{Placed}
use Rattle.sd_drive.specs.declared.place.Placed.TheVariants.{At, NeedVolume, VolumeFull, VolumeError, Idle}
use Rattle.sd_journal.specs.Journal.{Entry, placements, noted, settled, settled_one, fails, fails_with, has_purged, has_on, is_purged, is_purged_of, is_unsynced, awaits_sync, items_of}
use Rattle.sd_journal.specs.declared.mark.Mark.{Mark}
use Rattle.sd_journal.specs.declared.mark.Mark.TheVariants.{Unsynced, Synced, Lost, Purged}
use Rattle.sd_journal.proofs.EntryLemmas.{noting, other_more, placements_more, settled_placements, failing, purging}
use Rattle.sd_lane.specs.declared.piece.Piece.{Piece}
use Rattle.sd_span.specs.Spans.{placements_of}
use Rattle.sd_span.specs.declared.placement.Placement.{Placement}
use Rattle.sd_volume.specs.Volume.{VolumeView}
use Rattle.sd_volume.specs.declared.volume.VolumeStatus.{VolumeStatus}
use Rattle.sd_world.proofs.Items.{in_hand}
use Rattle.sd_world.proofs.Lookups.{get_set-tells, get_push-tells}
use Rattle.sd_world.proofs.Seats.{DriveStays, NamesStay, FailsStay, GoneStays}

-- a drive keeps its pieces and names, and no session fails by it, or loses a block
pub record DriveGoesOn {D : Type 0} (d after : DriveIs D) : Type 0 where
  pub stays : DriveStays d after
  pub fails : (key : SessionKey) → FailsStay key d after
  pub gone : (key : SessionKey) → GoneStays key d after
  pub names : NamesStay d after

names_same : {D : Type 0} (d after : DriveIs D) → after.volumes ≡ d.volumes → NamesStay d after
names_same d after same place v there = (place, v, ap (λ vs. slice_get vs place) (sym same) ∙ there, refl)

names_set : {D : Type 0} (d after : DriveIs D) (at : ℕ) (u u' : VolumeView) → slice_get d.volumes at ≡ Some u → u'.name ≡ u.name
    → after.volumes ≡ slice_set d.volumes at u' → NamesStay d after
names_set d after at u u' stood name is place v there =
    elim (get_set-tells d.volumes at place u' v (ap (λ vs. slice_get vs place) (sym is) ∙ there)) [
      | inl p ↦ (at, u, stood, ap (λ (x : VolumeView). x.name) p.1 ∙ name)
      | inr p ↦ (place, v, p.1, refl)
    ]

-- Placing.

-- the volume has its name, and the journal one entry more of the piece's session, or none
abbrev pub Notes : Piece → VolumeView → VolumeView → List Entry → List Entry → Type 0
Notes piece old new journal journal' = (new.name ≡ old.name)
    × ((journal' ≡ journal) ⊎ ((p : Placement) × (p.key ≡ piece.key) × (journal' ≡ journal ++ noted p ∷ [])))

notes : {E : Type 0} (result : Result Placed E) (limit : ℕ) (piece : Piece) (old new : VolumeView) (journal journal' : List Entry)
    → PlacesOn result limit piece old new journal journal' → Notes piece old new journal journal'
notes (Ok (At p)) limit piece old new journal journal' h =
    (ap (λ (v : VolumeView). v.name) h.2, inr (p, ap (λ (x : Placement). x.key) h.1, h.3))
notes (Ok NeedVolume) limit piece old new journal journal' h = absurd h
notes (Ok VolumeFull) limit piece old new journal journal' h = (ap (λ (v : VolumeView). v.name) h.0, inl h.1)
notes (Ok VolumeError) limit piece old new journal journal' h = (ap (λ (v : VolumeView). v.name) h.1, inl h.2)
notes (Ok Idle) limit piece old new journal journal' h = absurd h
notes (Err error) limit piece old new journal journal' h = (ap (λ (v : VolumeView). v.name) h.1, inl h.2)

-- no block is gone by what is noted
noted_gone : (key : SessionKey) (es : List Entry) (p : Placement) → has_purged key (es ++ noted p ∷ []) ≡ has_purged key es
noted_gone key es p = list_any-append (is_purged_of key) es (noted p ∷ []) ∙ none (has_purged key es) (is_key key p.key)
  where
    none : (a b : Bool) → (a || ((b && false) || false)) ≡ a
    none true b = refl
    none false true = refl
    none false false = refl

own_of : (key : SessionKey) (piece : Piece) (hand : Option Piece) (journal : List Entry) (p : Placement) (b : Bool) → hand ≡ Some piece → p.key ≡ piece.key
    → is_key key p.key ≡ b → (placements_of key (placements (journal ++ noted p ∷ [])) ≡ placements_of key (placements journal))
    ⊎ ((x : Piece) × (hand ≡ Some x) × (is_key key x.key ≡ true))
own_of key piece hand journal p true in_hand same own = inr (piece, in_hand, ap (is_key key) (sym same) ∙ own)
own_of key piece hand journal p false in_hand same other =
    inl (ap (placements_of key) (placements_more journal (noted p)) ∙ other_more key (placements journal) p other)

pub places : {D E : Type 0} (result : Result Placed E) (d after : DriveIs D) → PlacesPiece result d after
    → items after.journal after.hand ≡ items d.journal d.hand → DriveGoesOn d after
places {D} result d after h kept =
    let told = notes result d.limits.volume h.piece h.volume h.after d.journal after.journal h.on in
    record {
      stays = record {
        media_is = ap (λ (x : DriveIs D). x.media) h.becomes;
        limits_are = ap (λ (x : DriveIs D). x.limits) h.becomes;
        items_are = kept;
        own = λ key. elim told.1 [
          | inl same ↦ inl (ap (λ es. placements_of key (placements es)) same)
          | inr p ↦ subst (λ es. (placements_of key (placements es) ≡ placements_of key (placements d.journal)) ⊎ ((x : Piece) × (d.hand ≡ Some x) × (is_key key x.key ≡ true)))
              (sym p.2) (own_of key h.piece d.hand d.journal p.0 (is_key key p.0.key) h.ready.hand p.1 refl)
        ];
        grows = elim told.1 [
          | inl same ↦ ([], ap placements same ∙ sym (append-nil (placements d.journal)))
          | inr p ↦ (p.0 ∷ [], ap placements p.2 ∙ placements_more d.journal (noted p.0))
        ];
      };
      fails = λ key none. elim told.1 [
        | inl same ↦ ap (fails key) same ∙ none
        | inr p ↦ ap (fails key) p.2 ∙ (noting d.journal p.0).fails key ∙ none
      ];
      gone = λ key none. elim told.1 [
        | inl same ↦ ap (has_purged key) same ∙ none
        | inr p ↦ ap (has_purged key) p.2 ∙ noted_gone key d.journal p.0 ∙ none
      ];
      names = names_set d after h.at h.volume h.after h.ready.takes.there told.0 (ap (λ (x : DriveIs D). x.volumes) h.becomes);
    }

-- Syncs.

settled_on-placements : (mark : Mark) (name : Option (List ℕ)) (es : List Entry) → placements (settled_on mark name es) ≡ placements es
settled_on-placements mark None es = refl
settled_on-placements mark (Some name) es = settled_placements mark name es

settled_on-fails : (key : SessionKey) (name : Option (List ℕ)) (es : List Entry) → fails key (settled_on Synced name es) ≡ fails key es
settled_on-fails key None es = refl
settled_on-fails key (Some name) es = (failing name es).synced key

-- a block that may be synced isn't gone
unsynced_not_gone : (m : Mark) → is_unsynced m ≡ true → is_purged m ≡ false
unsynced_not_gone Unsynced is = refl
unsynced_not_gone Synced is = absurd (true≢false (sym is))
unsynced_not_gone Lost is = absurd (true≢false (sym is))
unsynced_not_gone Purged is = absurd (true≢false (sym is))

-- a sync that is over leaves each block that is gone, and no other is gone by it
settled_gone : (key : SessionKey) (mark : Mark) (volume : List ℕ) (es : List Entry) → is_purged mark ≡ false → has_purged key (settled mark volume es) ≡ has_purged key es
settled_gone key mark volume [] kept = refl
settled_gone key mark volume (e ∷ es) kept = ap₂ (λ a b. a || b) (one (awaits_sync volume e) refl) (settled_gone key mark volume es kept)
  where
    one : (b : Bool) → awaits_sync volume e ≡ b → is_purged_of key (settled_one mark volume e) ≡ is_purged_of key e
    one true is =
        ap (is_purged_of key) (cond-true (awaits_sync volume e) (record e { mark = mark }) e is)
        ∙ ap (λ b. is_key key e.placement.key && b) (kept ∙ sym (unsynced_not_gone e.mark (and_parts _ _ is).0))
    one false is = ap (is_purged_of key) (cond-false (awaits_sync volume e) (record e { mark = mark }) e is)

settled_on-gone : (key : SessionKey) (mark : Mark) (name : Option (List ℕ)) (es : List Entry) → is_purged mark ≡ false → has_purged key (settled_on mark name es) ≡ has_purged key es
settled_on-gone key mark None es kept = refl
settled_on-gone key mark (Some name) es kept = settled_gone key mark name es kept

-- only marks and what no rule speaks of change
pub marks : {D : Type 0} (d after : DriveIs D) → after.media ≡ d.media → after.limits ≡ d.limits → after.hand ≡ d.hand
    → placements after.journal ≡ placements d.journal → DriveStays d after
marks d after media limits hand placed = record {
  media_is = media;
  limits_are = limits;
  items_are = ap (λ ps. items_of ps ++ in_hand after.hand) placed ∙ ap (items d.journal) hand;
  own = λ key. inl (ap (placements_of key) placed);
  grows = ([], placed ∙ sym (append-nil (placements d.journal)));
}

settles : {D : Type 0} (d after : DriveIs D) → after.media ≡ d.media → after.limits ≡ d.limits → after.hand ≡ d.hand → after.volumes ≡ d.volumes
    → after.journal ≡ synced_journal d → DriveGoesOn d after
settles d after media limits hand volumes journal =
    let name = name_loaded d.volumes d.loaded in
    record {
      stays = marks d after media limits hand (ap placements journal ∙ settled_on-placements Synced name d.journal);
      fails = λ key none. ap (fails key) journal ∙ settled_on-fails key name d.journal ∙ none;
      gone = λ key none. ap (has_purged key) journal ∙ settled_on-gone key Synced name d.journal refl ∙ none;
      names = names_same d after volumes;
    }

pub syncs : {D : Type 0} (d after : DriveIs D) → Syncs d after → DriveGoesOn d after
syncs {D} d after is = settles d after (ap (λ (x : DriveIs D). x.media) is) (ap (λ (x : DriveIs D). x.limits) is) (ap (λ (x : DriveIs D). x.hand) is)
    (ap (λ (x : DriveIs D). x.volumes) is) (ap (λ (x : DriveIs D). x.journal) is)

pub unmounts : {D : Type 0} (d after : DriveIs D) → Unmounts d after → DriveGoesOn d after
unmounts {D} d after is = settles d after (ap (λ (x : DriveIs D). x.media) is) (ap (λ (x : DriveIs D). x.limits) is) (ap (λ (x : DriveIs D). x.hand) is)
    (ap (λ (x : DriveIs D). x.volumes) is) (ap (λ (x : DriveIs D). x.journal) is)

pub mounts : {D T : Type 0} (place : ℕ) (done : T) (d after : DriveIs D) → Mounts {T = T} place (Ok done) d after → DriveGoesOn d after
mounts {D} place done d after is = settles d after (ap (λ (x : DriveIs D). x.media) is) (ap (λ (x : DriveIs D). x.limits) is) (ap (λ (x : DriveIs D). x.hand) is)
    (ap (λ (x : DriveIs D). x.volumes) is) (ap (λ (x : DriveIs D). x.journal) is)

-- A sync that fails.

pub record DriveLoses {D : Type 0} (name : List ℕ) (d after : DriveIs D) : Type 0 where
  pub stays : DriveStays d after
  pub fails : (key : SessionKey) → fails key after.journal ≡ (fails key d.journal || fails_with key name d.journal)
  pub gone : (key : SessionKey) → GoneStays key d after
  pub names : NamesStay d after

pub fails_to_sync : {D : Type 0} (d after : DriveIs D) → (h : FailsToSync d after) → DriveLoses h.volume.name d after
fails_to_sync {D} d after h =
    let journal = ap (λ (x : DriveIs D). x.journal) h.becomes in
    record {
      stays = marks d after (ap (λ (x : DriveIs D). x.media) h.becomes) (ap (λ (x : DriveIs D). x.limits) h.becomes) (ap (λ (x : DriveIs D). x.hand) h.becomes)
          (ap placements journal ∙ settled_placements Lost h.volume.name d.journal);
      fails = λ key. ap (fails key) journal ∙ (failing h.volume.name d.journal).failed key;
      gone = λ key none. ap (has_purged key) journal ∙ settled_gone key Lost h.volume.name d.journal refl ∙ none;
      names = names_set d after h.at h.volume _ h.there refl (ap (λ (x : DriveIs D). x.volumes) h.becomes);
    }

-- Volumes.

pub adds_none : {D : Type 0} (d after : DriveIs D) → AddsNone d after → DriveGoesOn d after
adds_none {D} d after is =
    let journal = ap (λ (x : DriveIs D). x.journal) is in
    record {
      stays = marks d after (ap (λ (x : DriveIs D). x.media) is) (ap (λ (x : DriveIs D). x.limits) is) (ap (λ (x : DriveIs D). x.hand) is) (ap placements journal);
      fails = λ key none. ap (fails key) journal ∙ none;
      gone = λ key none. ap (has_purged key) journal ∙ none;
      names = names_same d after (ap (λ (x : DriveIs D). x.volumes) is);
    }

-- a volume more: each is the new one, or was there
pub record DriveAdds {D : Type 0} (name : List ℕ) (d after : DriveIs D) : Type 0 where
  pub stays : DriveStays d after
  pub fails : (key : SessionKey) → FailsStay key d after
  pub gone : (key : SessionKey) → GoneStays key d after
  pub names : (place : ℕ) (v : VolumeView) → slice_get after.volumes place ≡ Some v → (slice_get d.volumes place ≡ Some v) ⊎ (v.name ≡ name)

pub adds : {D : Type 0} (v : VolumeView) (d after : DriveIs D) → AddsVolume v d after → DriveAdds v.name d after
adds {D} v d after is =
    let journal = ap (λ (x : DriveIs D). x.journal) is in
    record {
      stays = marks d after (ap (λ (x : DriveIs D). x.media) is) (ap (λ (x : DriveIs D). x.limits) is) (ap (λ (x : DriveIs D). x.hand) is) (ap placements journal);
      fails = λ key none. ap (fails key) journal ∙ none;
      gone = λ key none. ap (has_purged key) journal ∙ none;
      names = λ place u there. elim (get_push-tells d.volumes place v u (ap (λ vs. slice_get vs place) (sym (ap (λ (x : DriveIs D). x.volumes) is)) ∙ there)) [
        | inl old ↦ inl old
        | inr new ↦ inr (ap (λ (x : VolumeView). x.name) new)
      ];
    }

-- A purge.

-- the drive keeps its pieces and names; of a session with no block on the volume nothing is marked
pub record DrivePurges {D : Type 0} (name : List ℕ) (d after : DriveIs D) : Type 0 where
  pub stays : DriveStays d after
  pub fails : (key : SessionKey) → has_on key name d.journal ≡ false → FailsStay key d after
  pub gone : (key : SessionKey) → has_on key name d.journal ≡ false → GoneStays key d after
  pub names : NamesStay d after

pub empties : {D : Type 0} (place : ℕ) (v : VolumeView) (status : VolumeStatus) (d after : DriveIs D) → slice_get d.volumes place ≡ Some v
    → EmptiesVolume place v status d after → DrivePurges v.name d after
empties {D} place v status d after there is =
    let journal = ap (λ (x : DriveIs D). x.journal) is in
    let marked = purging v.name d.journal in
    record {
      stays = marks d after (ap (λ (x : DriveIs D). x.media) is) (ap (λ (x : DriveIs D). x.limits) is) (ap (λ (x : DriveIs D). x.hand) is)
          (ap placements journal ∙ marked.placements);
      fails = λ key apart none. ap (fails key) journal ∙ marked.fails key apart ∙ none;
      gone = λ key apart none. ap (has_purged key) journal ∙ marked.gone key ∙ ap₂ (λ a b. a || b) none apart;
      names = names_set d after place v _ there refl (ap (λ (x : DriveIs D). x.volumes) is);
    }
