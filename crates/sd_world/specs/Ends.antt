-- Spans that end where a block of their volume does, and what adopting a volume keeps of them.
use Rattle.std.specs.Prelude.{◌≡◌, ℕ, false, All, List, ◌++◌, Option, Some}
use Rattle.sd_base.specs.declared.number.SessionKey.{SessionKey}
use Rattle.sd_driver.specs.Meaning.{Meaning, IsHonest}
use Rattle.sd_driver.specs.Shelf.{Shelf}
use Rattle.sd_drive.specs.Shelf.{Kept}
use Rattle.sd_journal.specs.Journal.{Entry, placements, has_purged}
use Rattle.sd_label.specs.declared.label.VolumeLabel.{VolumeLabel}
use Rattle.sd_readback.specs.Reading.{Volumes, KeepSpans, volumes_on}
use Rattle.sd_span.specs.Spans.{spans_of}
use Rattle.sd_span.specs.declared.placement.Placement.{Placement}
use Rattle.sd_span.specs.declared.span.Span.{Span}
use Rattle.sd_volume.specs.Adopt.{Adopts}
use Rattle.sd_volume.specs.Image.{Block, VolumeImage, volume_end}
use Rattle.sd_volume.specs.Volume.{VolumeView}

-- the volume of that name begins with its label and whole blocks that end there
pub record BlocksEndAt (volumes : Volumes) (name : List ℕ) (end : ℕ) : Type 0 where
  pub bytes : List ℕ
  pub there : volumes name ≡ Some bytes
  pub label : VolumeLabel
  pub blocks : List Block
  pub tail : List ℕ
  pub image : VolumeImage bytes label blocks tail
  pub end_is : end ≡ volume_end label blocks

-- each span ends where whole blocks of its volume do
abbrev pub EndWithBlocks : Volumes → List Span → Type 0
EndWithBlocks volumes spans = All (λ s. BlocksEndAt volumes s.volume s.end) spans

-- Laws.

-- While a drive's device is honest, the spans of its journal, now and at any earlier moment, end where blocks do, if no block of
-- the session is gone.
abbrev pub PlacedEndWithBlocks : Type 0
PlacedEndWithBlocks =
    (device : Meaning) (volumes : List VolumeView) (loaded : Option ℕ) (journal : List Entry)
    (key : SessionKey) (ps more : List Placement)
    → Kept device volumes loaded journal
    → IsHonest device
    → placements journal ≡ ps ++ more
    → has_purged key journal ≡ false
    → EndWithBlocks (volumes_on device.shelf) (spans_of key ps)

-- what keeps the bytes of spans, keeps that they end where blocks do
abbrev pub KeptSpansEndWithBlocks : Type 0
KeptSpansEndWithBlocks =
    (old new : Volumes) (spans : List Span)
    → KeepSpans spans old new
    → EndWithBlocks old spans
    → EndWithBlocks new spans

-- adopting a volume, which cuts it where its whole blocks end, keeps the bytes of spans that end where blocks do
abbrev pub AdoptionKeepsSpans : Type 0
AdoptionKeepsSpans =
    (name media : List ℕ) (start : ℕ) (v : VolumeView) (old new : Shelf) (spans : List Span)
    → Adopts name media start v old new
    → EndWithBlocks (volumes_on old) spans
    → KeepSpans spans (volumes_on old) (volumes_on new)
