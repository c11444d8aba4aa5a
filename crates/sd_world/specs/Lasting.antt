-- Spans whose bytes every stop leaves, and what keeps them so.
use Rattle.std.specs.Prelude.{◌≡◌, ℕ, ◌≤◌, All, Bool, IsTrue, List, [], take, Option}
use Rattle.sd_base.specs.declared.number.SessionKey.{SessionKey}
use Rattle.sd_driver.specs.Meaning.{Meaning, IsHonest}
use Rattle.sd_driver.specs.Shelf.{Shelf, Lasts, StillLastsBelow, AfterStop, low_mark}
use Rattle.sd_drive.specs.Shelf.{Kept, LeavesStable}
use Rattle.sd_journal.specs.Journal.{Entry, placements, placed_of, synced_of}
use Rattle.sd_label.specs.declared.label.VolumeLabel.{VolumeLabel}
use Rattle.sd_readback.specs.Reading.{Volumes, KeepSpans, volumes_on}
use Rattle.sd_world.specs.Ends.{BlocksEndAt}
use Rattle.sd_span.specs.Spans.{spans_of}
use Rattle.sd_span.specs.declared.span.Span.{Span}
use Rattle.sd_volume.specs.Adopt.{KeepsWholeBlocks}
use Rattle.sd_volume.specs.Image.{Block, VolumeImage}
use Rattle.sd_volume.specs.Volume.{VolumeView}

-- on each volume of a name that keeps its blocks: a label block and whole blocks after it that lasted since some moment
-- still last
abbrev pub BlocksStillLast : (List ℕ → Type 0) → Shelf → Shelf → Type 0
BlocksStillLast keeps old new =
    (since : ℕ) (name bytes : List ℕ) (label : VolumeLabel) (blocks : List Block)
    → keeps name
    → VolumeImage bytes label blocks []
    → Lasts since name bytes old
    → Lasts since name bytes new

-- In these volumes the span ends where whole blocks do, and since that moment every stop, also one inside a call, leaves
-- the bytes up to there on the shelf.
pub record SpanLasts (since : ℕ) (volumes : Volumes) (shelf : Shelf) (s : Span) : Type 0 where
  pub ends : BlocksEndAt volumes s.volume s.end
  pub lasts : Lasts since s.volume (take s.end ends.bytes) shelf

-- so it is with each of the spans
abbrev pub SpansLast : ℕ → Volumes → Shelf → List Span → Type 0
SpansLast since volumes shelf spans = All (λ s. SpanLasts since volumes shelf s) spans

-- Laws.

-- whatever an adoption answers, whole blocks that lasted still last
abbrev pub AdoptionKeepsLasting : Type 0
AdoptionKeepsLasting =
    (keeps : List ℕ → Bool) (name : List ℕ) (old new : Shelf)
    → KeepsWholeBlocks name old new
    → StillLastsBelow 0 name old new
    → BlocksStillLast (λ volume. IsTrue (keeps volume)) old new

-- while a drive's device is honest and all blocks of a session are synced, the session's spans last from now on
abbrev pub SyncedSpansLast : Type 0
SyncedSpansLast =
    (device : Meaning) (volumes : List VolumeView) (loaded : Option ℕ) (journal : List Entry)
    (key : SessionKey)
    → Kept device volumes loaded journal
    → IsHonest device
    → synced_of key journal ≡ placed_of key journal
    → SpansLast device.shelf.moment (volumes_on device.shelf) device.shelf (spans_of key (placements journal))

-- spans that last still do as long as the whole blocks of their volumes do
abbrev pub LastingSpansStay : Type 0
LastingSpansStay =
    (keeps : List ℕ → Bool) (since : ℕ) (volumes : Volumes) (old new : Shelf) (spans : List Span)
    → BlocksStillLast (λ volume. IsTrue (keeps volume)) old new
    → All (λ (s : Span). IsTrue (keeps s.volume)) spans
    → SpansLast since volumes old spans
    → SpansLast since volumes new spans

-- the low mark of each volume of spans that last is at least where the span ends
abbrev pub LastingSpansMark : Type 0
LastingSpansMark =
    (since : ℕ) (volumes : Volumes) (shelf : Shelf) (spans : List Span)
    → since ≤ shelf.moment
    → SpansLast since volumes shelf spans
    → All (λ s. s.end ≤ low_mark shelf since s.volume) spans

-- what a stop leaves has the bytes of spans that last
abbrev pub LastingSpansKept : Type 0
LastingSpansKept =
    (since : ℕ) (volumes : Volumes) (shelf left : Shelf) (spans : List Span)
    → SpansLast since volumes shelf spans
    → AfterStop since shelf left
    → KeepSpans spans volumes (volumes_on left)

-- and there they last from then on
abbrev pub LastingSpansSurvive : Type 0
LastingSpansSurvive =
    (since : ℕ) (volumes : Volumes) (shelf left : Shelf) (spans : List Span)
    → SpansLast since volumes shelf spans
    → AfterStop since shelf left
    → LeavesStable left
    → SpansLast left.moment volumes left spans
