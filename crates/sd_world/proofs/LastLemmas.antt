-- Spans whose bytes every stop leaves.
use Rattle.std.proofs.Common.{◌≡◌, ◌≢◌, ℕ, ◌+◌, ◌≤◌, inl, inr, Bool, true, false, Option, Some, List, [], ◌∷◌, length, take, drop, refl, ap, sym, subst, ◌∙◌, arith}
use Rattle.std.proofs.lemmas.List.{append-nil, length-append}
use Rattle.std.proofs.lemmas.List.Elements.{recursion_from_All}
use Rattle.std.specs.Prelude.{IsTrue, All}
use Rattle.std.specs.List.{AllByRecursion}
use Rattle.sd_base.specs.Key.{is_key}
use Rattle.sd_base.specs.declared.number.SessionKey.{SessionKey}
use Rattle.sd_driver.specs.Meaning.{Meaning, IsHonest}
use Rattle.sd_driver.specs.Shelf.{Shelf, Lasts, StillLastsBelow, BeginsWith, low_mark}
use Rattle.sd_driver.proofs.Lasting.{stop_leaves, Lasts-later, low_mark-lasts}
use Rattle.sd_driver.proofs.Names.{name_cases}
use Rattle.sd_drive.specs.Shelf.{Kept, IsSafe, IsSafeIfSynced}
use Rattle.sd_drive.proofs.Places.{some_is}
use Rattle.sd_journal.specs.Journal.{Entry, placements, placed_of, synced_of, has_purged}
use Rattle.sd_journal.specs.declared.mark.Mark.TheVariants.{Synced}
use Rattle.sd_journal.proofs.EntryLemmas.{counting}
use Rattle.sd_label.specs.declared.label.VolumeLabel.{VolumeLabel}
use Rattle.sd_readback.specs.Reading.{Volumes, bytes_of, volumes_on}
use Rattle.sd_span.specs.Spans.{placements_of, spans_of}
use Rattle.sd_span.specs.declared.placement.Placement.{Placement}
use Rattle.sd_span.specs.declared.span.Span.{Span}
use Rattle.sd_volume.specs.Image.{Block, images, label_block, label_and_blocks, volume_end, VolumeImage}
use Rattle.sd_volume.specs.Adopt.{KeepsWholeBlocks}
use Rattle.sd_volume.specs.Volume.{VolumeView}
use Rattle.sd_volume.proofs.DueLemmas.{cut_image}
use Rattle.sd_volume.proofs.ImageLemmas.{bytes_before, kept_blocks_stand, label_block-least}
use Rattle.sd_world.specs.Ends.{BlocksEndAt}
use Rattle.sd_world.specs.Lasting.{BlocksStillLast, SpanLasts, SpansLast, SyncedSpansLast, LastingSpansMark, LastingSpansKept, LastingSpansSurvive}
use Rattle.sd_world.proofs.EndLemmas.{all_both, spans_all, placed_end_with_blocks}
use Rattle.sd_world.proofs.ReachLemmas.{of_if}

-- ---- whole blocks

-- a label block and blocks after it are some bytes
image_length : (bytes : List ℕ) (label : VolumeLabel) (blocks : List Block) → VolumeImage bytes label blocks [] → length bytes ≡ volume_end label blocks
image_length bytes label blocks is = ap length (is.bytes_are ∙ append-nil (label_and_blocks label blocks))

image_some : (bytes : List ℕ) (label : VolumeLabel) (blocks : List Block) → VolumeImage bytes label blocks [] → bytes ≢ []
image_some bytes label blocks is none =
    let some = label_block-least label in
    absurd (omega (arith, some, image_length bytes label blocks is, length-append (label_block label) (images 1 blocks), ap length none))

pub adoption_keeps_lasting : (keeps : List ℕ → Type 0) (name : List ℕ) (old new : Shelf) → KeepsWholeBlocks name old new → StillLastsBelow 0 name old new → BlocksStillLast keeps old new
adoption_keeps_lasting keeps name old new whole others since at bytes label blocks kept is lasts = elim (name_cases at name) [
  | inl same ↦ (
      let own = subst (λ n. Lasts since n bytes old) same lasts in
      let stood = stop_leaves since name bytes old old (λ n b l. l.now) own (image_some bytes label blocks is) in
      let front : take (volume_end label blocks) bytes ≡ bytes = bytes_before bytes label blocks [] is ∙ sym (is.bytes_are ∙ append-nil (label_and_blocks label blocks)) in
      let image = kept_blocks_stand bytes stood.0.bytes label blocks [] is (subst (BeginsWith stood.0.bytes) (sym front) stood.2) in
      let below = (whole stood.0 stood.1 label blocks (drop (volume_end label blocks) stood.0.bytes) image).1 in
      subst (λ n. Lasts since n bytes new) (sym same) (below.below since bytes (omega (arith, image_length bytes label blocks is)) own))
  | inr other ↦ others.others since at bytes other lasts
]

-- ---- one span

-- the bytes up to the span's end are a label block and whole blocks
span_image : (volumes : Volumes) (s : Span) (e : BlocksEndAt volumes s.volume s.end) → VolumeImage (take s.end e.bytes) e.label e.blocks []
span_image volumes s e = cut_image e.bytes e.label e.blocks e.tail s.end e.image e.end_is

span_length : (volumes : Volumes) (s : Span) (e : BlocksEndAt volumes s.volume s.end) → length (take s.end e.bytes) ≡ s.end
span_length volumes s e = image_length (take s.end e.bytes) e.label e.blocks (span_image volumes s e) ∙ sym e.end_is

all_as : (P Q : Span → Type 0) (spans : List Span) → ((s : Span) → P s → Q s) → All P spans → All Q spans
all_as P Q spans each all = all_both P P Q spans (λ s p again. each s p) all all

-- ---- synced blocks

-- what holds of each synced block holds of those of a session that has no other
own_all : (shelf : Shelf) (Q : Placement → Type 0) (key : SessionKey) (es : List Entry)
    → ((e : Entry) → IsSafe shelf e.placement → Q e.placement)
    → AllByRecursion (IsSafeIfSynced shelf) es
    → AllByRecursion (λ (e : Entry). IsTrue (is_key key e.placement.key) → e.mark ≡ Synced) es
    → AllByRecursion Q (placements_of key (placements es))
own_all shelf Q key [] each safe synced = tt
own_all shelf Q key (e ∷ es) each safe synced =
    from (own_all shelf Q key es each safe.1 synced.1) (is_key key e.placement.key) refl
  where
    from : AllByRecursion Q (placements_of key (placements es)) → (b : Bool) → is_key key e.placement.key ≡ b → AllByRecursion Q (placements_of key (placements (e ∷ es)))
    from rest true is = subst (AllByRecursion Q) (sym (of_if key e.placement (placements es) true is)) (each e (safe.0 (synced.0 is)), rest)
    from rest false is = subst (AllByRecursion Q) (sym (of_if key e.placement (placements es) false is)) rest

-- what holds at the end of each synced block holds at the ends of the session's spans
synced_spans : (device : Meaning) (volumes : List VolumeView) (loaded : Option ℕ) (journal : List Entry) (key : SessionKey) (Q : List ℕ → ℕ → Type 0) → Kept device volumes loaded journal → IsHonest device
    → synced_of key journal ≡ placed_of key journal
    → ((e : Entry) → IsSafe device.shelf e.placement → Q e.placement.volume (e.placement.start + e.placement.length))
    → All (λ (s : Span). Q s.volume s.end) (spans_of key (placements journal))
synced_spans device volumes loaded journal key Q kept honest all each =
    let synced = recursion_from_All (λ (e : Entry). IsTrue (is_key key e.placement.key) → e.mark ≡ Synced) journal ((counting key journal).whole.0 all) in
    spans_all Q key (placements journal)
    (own_all device.shelf (λ (p : Placement). Q p.volume (p.start + p.length)) key journal each (kept.safe honest) synced)

-- no block of it is gone
none_gone : (key : SessionKey) (journal : List Entry) → synced_of key journal ≡ placed_of key journal → has_purged key journal ≡ false
none_gone key journal all = from (has_purged key journal) refl
  where
    from : (b : Bool) → has_purged key journal ≡ b → b ≡ false
    from true gone = (let less = (counting key journal).gone gone in absurd (omega arith))
    from false none = refl

-- ---- the laws

pub synced_spans_last : SyncedSpansLast
synced_spans_last device volumes loaded journal key kept honest all =
    let shelf = device.shelf in
    let from = shelf.moment in
    let Q : List ℕ → ℕ → Type 0 = λ name end. (bytes : List ℕ) → volumes_on shelf name ≡ Some bytes → Lasts from name (take end bytes) shelf in
    all_both (λ (s : Span). BlocksEndAt (volumes_on shelf) s.volume s.end) (λ (s : Span). Q s.volume s.end) (SpanLasts from (volumes_on shelf) shelf) _
    (λ s ends lasts. record { ends = ends; lasts = lasts ends.bytes ends.there })
    (placed_end_with_blocks device volumes loaded journal key (placements journal) [] kept honest (sym (append-nil (placements journal))) (none_gone key journal all))
    (synced_spans device volumes loaded journal key Q kept honest all
    (λ e safe bytes is. (
    let end = e.placement.start + e.placement.length in
    let own : safe.held.bytes ≡ bytes = some_is (sym (ap bytes_of safe.there) ∙ is) in
    let lasts = Lasts-later safe.since from e.placement.volume (take end safe.held.bytes) shelf safe.past safe.lasts in
    subst (λ b. Lasts from e.placement.volume (take end b) shelf) own lasts)))

pub lasting_spans_stay : (keeps : List ℕ → Type 0) (since : ℕ) (volumes : Volumes) (old new : Shelf) (spans : List Span)
    → BlocksStillLast keeps old new → All (λ (s : Span). keeps s.volume) spans → SpansLast since volumes old spans → SpansLast since volumes new spans
lasting_spans_stay keeps since volumes old new spans still kept =
    all_both (λ (s : Span). keeps s.volume) (SpanLasts since volumes old) (SpanLasts since volumes new) spans
    (λ s k l. record { ends = l.ends; lasts = still since s.volume (take s.end l.ends.bytes) l.ends.label l.ends.blocks k (span_image volumes s l.ends) l.lasts })
    kept

pub lasting_spans_mark : LastingSpansMark
lasting_spans_mark since volumes shelf spans known =
    all_as (SpanLasts since volumes shelf) (λ (s : Span). s.end ≤ low_mark shelf since s.volume) spans
    (λ s l. (
    let mark = low_mark-lasts since s.volume (take s.end l.ends.bytes) shelf known l.lasts in
    omega (arith, mark, span_length volumes s l.ends)))

pub lasting_spans_kept : LastingSpansKept
lasting_spans_kept since volumes shelf left spans all stop =
    all_as (SpanLasts since volumes shelf) (λ (s : Span). (bytes : List ℕ) → volumes s.volume ≡ Some bytes → (after : List ℕ) × (volumes_on left s.volume ≡ Some after) × BeginsWith after (take s.end bytes)) spans
    (λ s l bytes is. (
    let e = l.ends in
    let own : e.bytes ≡ bytes = some_is (sym e.there ∙ is) in
    let there = stop_leaves since s.volume (take s.end e.bytes) shelf left stop l.lasts (image_some (take s.end e.bytes) e.label e.blocks (span_image volumes s e)) in
    (there.0.bytes, ap bytes_of there.1, subst (λ b. BeginsWith there.0.bytes (take s.end b)) own there.2)))
    all

pub lasting_spans_survive : LastingSpansSurvive
lasting_spans_survive since volumes shelf left spans all stop now =
    all_as (SpanLasts since volumes shelf) (SpanLasts left.moment volumes left) spans
    (λ s l. (
    let bytes = take s.end l.ends.bytes in
    let stable = stop s.volume bytes l.lasts in
    record {
      ends = l.ends;
      lasts = record {
        before = λ moment from until. (
            let same : moment ≡ left.moment = omega arith in
            subst (λ (b : List ℕ). BeginsWith b bytes) (sym (ap (λ n. left.kept n s.volume) same ∙ now s.volume)) stable);
        now = stable;
      };
    }))
    all
