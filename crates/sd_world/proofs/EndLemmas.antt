-- Where spans end, and what adopting a volume keeps of them.
use Rattle.std.proofs.Common.{◌≡◌, ℕ, ◌+◌, Bool, true, false, inl, inr, if◌then◌else◌, List, [], ◌∷◌, ◌++◌, length, take, drop, refl, ap, sym, subst, Option, Some, ◌∙◌}
use Rattle.std.proofs.lemmas.List.{append_assoc}
use Rattle.std.proofs.lemmas.List.Elements.{All-from_recursion, recursion_from_All}
use Rattle.std.specs.Prelude.{All}
use Rattle.std.specs.List.{AllByRecursion}
use Rattle.std.specs.Str.{bytes_eq}
use Rattle.sd_base.specs.FileIndex.{first_nonzero}
use Rattle.sd_base.specs.Key.{is_key}
use Rattle.sd_base.specs.declared.number.SessionKey.{SessionKey}
use Rattle.sd_driver.specs.Meaning.{Meaning, IsHonest}
use Rattle.sd_driver.specs.Shelf.{Shelf, BeginsWith}
use Rattle.sd_driver.proofs.Lasting.{BeginsWith-own_take}
use Rattle.sd_driver.proofs.Names.{name_cases}
use Rattle.sd_drive.specs.Shelf.{Kept, block_at}
use Rattle.sd_drive.proofs.Places.{some_is}
use Rattle.sd_journal.specs.Journal.{Entry, live}
use Rattle.sd_label.specs.declared.label.VolumeLabel.{VolumeLabel}
use Rattle.sd_readback.specs.Reading.{bytes_of, volumes_on}
use Rattle.sd_span.specs.Spans.{placements_of, stretch_of, in_front, stretches, numbered_from, spans_of}
use Rattle.sd_span.specs.declared.placement.Placement.{Placement}
use Rattle.sd_span.specs.declared.span.Span.{Span}
use Rattle.sd_volume.specs.Adopt.{Adopts}
use Rattle.sd_volume.specs.Image.{Block, images, label_and_blocks, volume_end, VolumeImage}
use Rattle.sd_volume.specs.Volume.{VolumeView}
use Rattle.sd_volume.proofs.ImageLemmas.{bytes_before, kept_blocks_stand, whole_image_goes_on}
use Rattle.sd_world.specs.Ends.{BlocksEndAt, EndWithBlocks, PlacedEndWithBlocks, KeptSpansEndWithBlocks, AdoptionKeepsSpans}
use Rattle.sd_world.specs.Restore.{StandsAmong}
use Rattle.sd_world.proofs.HoldLemmas.{AreImages-front, blocks_behind}
use Rattle.sd_world.proofs.ReachLemmas.{of_if}
use Rattle.sd_world.proofs.RestoreLemmas.{placed_among_blocks, live_front}

-- ---- where spans end

-- each stretch ends where one of its placements does
stretches_all : (Q : List ℕ → ℕ → Type 0) (ps : List Placement) → AllByRecursion (λ (p : Placement). Q p.volume (p.start + p.length)) ps → AllByRecursion (λ (s : Span). Q s.volume s.end) (stretches ps)
stretches_all Q [] all = tt
stretches_all Q (p ∷ ps) all = front_all p (stretches ps) all.0 (stretches_all Q ps all.1)
  where
    front_all : (p : Placement) (ss : List Span) → Q p.volume (p.start + p.length) → AllByRecursion (λ (s : Span). Q s.volume s.end) ss → AllByRecursion (λ (s : Span). Q s.volume s.end) (in_front p ss)
    front_all p [] here behind = (here, tt)
    front_all p (s ∷ ss) here behind =
        let longer : Span = record s { first = first_nonzero p.first s.first; last = first_nonzero s.last p.last; start = p.start } in
        elim (bytes_eq p.volume s.volume) as (λ b. AllByRecursion (λ (x : Span). Q x.volume x.end) (if b then longer ∷ ss else stretch_of p ∷ s ∷ ss)) [
          | true ↦ behind
          | false ↦ (here, behind)
        ]

numbered_all : (Q : List ℕ → ℕ → Type 0) (index : ℕ) (ss : List Span) → AllByRecursion (λ (s : Span). Q s.volume s.end) ss → AllByRecursion (λ (s : Span). Q s.volume s.end) (numbered_from index ss)
numbered_all Q index [] all = tt
numbered_all Q index (s ∷ ss) all = (all.0, numbered_all Q (index + 1) ss all.1)

-- what holds at the end of each block of a session holds at the end of each of its spans
pub spans_all : (Q : List ℕ → ℕ → Type 0) (key : SessionKey) (ps : List Placement) → AllByRecursion (λ (p : Placement). Q p.volume (p.start + p.length)) (placements_of key ps)
    → All (λ (s : Span). Q s.volume s.end) (spans_of key ps)
spans_all Q key ps all = All-from_recursion (λ (s : Span). Q s.volume s.end) (spans_of key ps) (numbered_all Q 1 (stretches (placements_of key ps)) (stretches_all Q (placements_of key ps) all))

-- ---- where blocks end

-- the first blocks of a volume are an image of it
image_front : (bytes : List ℕ) (label : VolumeLabel) (bs cs : List Block) (tail : List ℕ) → VolumeImage bytes label (bs ++ cs) tail → VolumeImage bytes label bs (images (1 + length bs) cs ++ tail)
image_front bytes label bs cs tail is = record {
  label_is = is.label_is;
  blocks_are = AreImages-front 1 bs cs is.blocks_are;
  bytes_are = is.bytes_are ∙ ap (λ (l : List ℕ). l ++ tail) (blocks_behind label bs cs) ∙ append_assoc (label_and_blocks label bs) (images (1 + length bs) cs) tail;
}

among_ends : (shelf : Shelf) (p : Placement) → StandsAmong shelf p → BlocksEndAt (volumes_on shelf) p.volume (p.start + p.length)
among_ends shelf p a =
    let b = block_at shelf p in
    let image = subst (λ l. VolumeImage a.held.bytes a.label l a.tail) (sym (append_assoc a.before (b ∷ []) a.behind)) a.image in
    record {
      bytes = a.held.bytes;
      there = ap bytes_of a.there;
      label = a.label;
      blocks = a.before ++ b ∷ [];
      tail = images (1 + length (a.before ++ b ∷ [])) a.behind ++ a.tail;
      image = image_front a.held.bytes a.label (a.before ++ b ∷ []) a.behind a.tail image;
      end_is = a.end_is;
    }

own_end : (device : Meaning) (volumes : List VolumeView) (loaded : Option ℕ) (journal : List Entry) (key : SessionKey) (before ps more : List Placement) → Kept device volumes loaded journal → IsHonest device
    → live journal ≡ before ++ (ps ++ more) → AllByRecursion (λ (p : Placement). BlocksEndAt (volumes_on device.shelf) p.volume (p.start + p.length)) (placements_of key ps)
own_end device volumes loaded journal key before [] more kept honest is = tt
own_end device volumes loaded journal key before (p ∷ ps) more kept honest is =
    from (among_ends device.shelf p (placed_among_blocks device volumes loaded journal before (ps ++ more) p kept honest is))
    (own_end device volumes loaded journal key (before ++ p ∷ []) ps more kept honest (is ∙ sym (append_assoc before (p ∷ []) (ps ++ more)))) (is_key key p.key) refl
  where
    Ends : Placement → Type 0
    Ends q = BlocksEndAt (volumes_on device.shelf) q.volume (q.start + q.length)

    from : Ends p → AllByRecursion Ends (placements_of key ps) → (b : Bool) → is_key key p.key ≡ b → AllByRecursion Ends (placements_of key (p ∷ ps))
    from here rest true own = subst (AllByRecursion Ends) (sym (of_if key p ps true own)) (here, rest)
    from here rest false own = subst (AllByRecursion Ends) (sym (of_if key p ps false own)) rest

-- ---- the laws

pub placed_end_with_blocks : PlacedEndWithBlocks
placed_end_with_blocks device volumes loaded journal key ps more kept honest is none =
    let l = live_front key journal ps more is none in
    let P : List Placement → Type 0 = λ own. EndWithBlocks (volumes_on device.shelf) (numbered_from 1 (stretches own)) in
    subst P l.own (spans_all (BlocksEndAt (volumes_on device.shelf)) key l.front (own_end device volumes loaded journal key [] l.front l.behind kept honest l.parted))

-- what holds of each span, by two facts of each
pub all_both : (P Q R : Span → Type 0) (spans : List Span) → ((s : Span) → P s → Q s → R s) → All P spans → All Q spans → All R spans
all_both P Q R spans each one other = All-from_recursion R spans (from spans (recursion_from_All P spans one) (recursion_from_All Q spans other))
  where
    from : (ss : List Span) → AllByRecursion P ss → AllByRecursion Q ss → AllByRecursion R ss
    from [] h g = tt
    from (s ∷ ss) h g = (each s h.0 g.0, from ss h.1 g.1)

pub kept_spans_end_with_blocks : KeptSpansEndWithBlocks
kept_spans_end_with_blocks old new spans keep ends =
    all_both (λ (s : Span). (bytes : List ℕ) → old s.volume ≡ Some bytes → (after : List ℕ) × (new s.volume ≡ Some after) × BeginsWith after (take s.end bytes))
    (λ (s : Span). BlocksEndAt old s.volume s.end) (λ (s : Span). BlocksEndAt new s.volume s.end) spans
    (λ s k e. (
    let a = k e.bytes e.there in
    record {
      bytes = a.0;
      there = a.1;
      label = e.label;
      blocks = e.blocks;
      tail = drop (volume_end e.label e.blocks) a.0;
      image = kept_blocks_stand e.bytes a.0 e.label e.blocks e.tail e.image (subst (λ n. BeginsWith a.0 (take n e.bytes)) e.end_is a.2);
      end_is = e.end_is;
    })) keep ends

-- the volume that was adopted keeps its whole blocks
adopted_keeps : (name media : List ℕ) (start : ℕ) (v : VolumeView) (old new : Shelf) (s : Span) → Adopts name media start v old new → (e : BlocksEndAt (volumes_on old) s.volume s.end) → s.volume ≡ name
    → (after : List ℕ) × (volumes_on new s.volume ≡ Some after) × BeginsWith after (take s.end e.bytes)
adopted_keeps name media start v old new s a e on =
    let n = a.stands.held.bytes in
    let same : a.held.bytes ≡ e.bytes = some_is (sym (ap bytes_of (ap old.volume on ∙ a.there)) ∙ e.there) in
    let image = subst (λ b. VolumeImage b e.label e.blocks e.tail) (sym same) e.image in
    let to = whole_image_goes_on a.held.bytes e.label a.found.label e.blocks a.found.blocks e.tail a.found.tail image a.found.whole in
    let label_too = subst (λ l. VolumeImage n l a.found.blocks []) (sym to.0) a.stands.image in
    let blocks_too = subst (λ l. VolumeImage n e.label l []) to.1.1 label_too in
    let front = bytes_before n e.label e.blocks _ (image_front n e.label e.blocks to.1.0 [] blocks_too) ∙ sym (bytes_before e.bytes e.label e.blocks e.tail e.image) in
    let up_to : take s.end n ≡ take s.end e.bytes = subst (λ k. take k n ≡ take k e.bytes) (sym e.end_is) front in
    let volume : s.volume ≡ v.name = on ∙ sym (a.stands.name_is ∙ a.found.ours.name_is) in
    (n, ap bytes_of (ap new.volume volume ∙ a.stands.there), subst (BeginsWith n) up_to (BeginsWith-own_take n s.end))

pub adoption_keeps_spans : AdoptionKeepsSpans
adoption_keeps_spans name media start v old new spans a ends =
    all_both (λ (s : Span). BlocksEndAt (volumes_on old) s.volume s.end) (λ (s : Span). BlocksEndAt (volumes_on old) s.volume s.end)
    (λ (s : Span). (bytes : List ℕ) → volumes_on old s.volume ≡ Some bytes → (after : List ℕ) × (volumes_on new s.volume ≡ Some after) × BeginsWith after (take s.end bytes)) spans
    (λ s e again bytes there. elim (name_cases s.volume name) [
      | inl on ↦ (
          let kept = adopted_keeps name media start v old new s a e on in
          let one : e.bytes ≡ bytes = some_is (sym e.there ∙ there) in
          (kept.0, kept.1, subst (λ b. BeginsWith kept.0 (take s.end b)) one kept.2))
      | inr other ↦ (bytes, ap bytes_of (a.others s.volume other) ∙ there, BeginsWith-own_take bytes s.end)
    ]) ends ends
