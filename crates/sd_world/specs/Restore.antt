-- What is read back of the blocks that a drive placed.
use Rattle.std.specs.Prelude.{◌≡◌, ◌≢◌, ℕ, ◌+◌, Bool, false, List, [], ◌∷◌, ◌++◌, map, Option, Some}
use Rattle.sd_base.specs.Record.{Record}
use Rattle.sd_base.specs.declared.number.SessionKey.{SessionKey}
use Rattle.sd_driver.specs.Meaning.{Meaning, IsHonest}
use Rattle.sd_driver.specs.Shelf.{Shelf, Held}
use Rattle.sd_drive.specs.Shelf.{Kept, block_at}
use Rattle.sd_journal.specs.Journal.{Entry, placements, live, has_purged}
use Rattle.sd_label.specs.Cutting.{WholeOf}
use Rattle.sd_label.specs.declared.label.VolumeLabel.{VolumeLabel}
use Rattle.sd_readback.specs.Reading.{Reads, blocks_of, volumes_on}
use Rattle.sd_span.specs.Spans.{placements_of, spans_of}
use Rattle.sd_span.specs.declared.placement.Placement.{Placement}
use Rattle.sd_volume.specs.Image.{Block, VolumeImage, volume_end}
use Rattle.sd_volume.specs.Volume.{VolumeView}

-- the volume of the placement is its label block and whole blocks, of which the one at the placement begins and ends there
pub record StandsAmong (shelf : Shelf) (p : Placement) : Type 0 where
  pub held : Held
  pub there : shelf.volume p.volume ≡ Some held
  pub label : VolumeLabel
  pub before : List Block
  pub behind : List Block
  pub tail : List ℕ
  pub image : VolumeImage held.bytes label (before ++ block_at shelf p ∷ behind) tail
  pub start_is : p.start ≡ volume_end label before
  pub end_is : p.start + p.length ≡ volume_end label (before ++ block_at shelf p ∷ [])

-- Laws.

-- while a drive's device is honest, each placement of its journal whose block isn't gone is among the blocks of its
-- volume
abbrev pub PlacedAmongBlocks : Type 0
PlacedAmongBlocks =
    (device : Meaning) (volumes : List VolumeView) (loaded : Option ℕ) (journal : List Entry)
    (before more : List Placement) (p : Placement)
    → Kept device volumes loaded journal
    → IsHonest device
    → live journal ≡ before ++ p ∷ more
    → StandsAmong device.shelf p

-- While a drive's device is honest, the spans that its journal gives of a session now, or gave at any earlier moment
-- when its placements were the first of those of now, read to exactly what is whole in the bodies that were placed by
-- then, if there was one, and no block of the session is gone.
abbrev pub PlacedRead : Type 0
PlacedRead =
    (device : Meaning) (volumes : List VolumeView) (loaded : Option ℕ) (journal : List Entry)
    (key : SessionKey) (ps more : List Placement) (records : List Record) (ended : Bool)
    → Kept device volumes loaded journal
    → IsHonest device
    → placements journal ≡ ps ++ more
    → placements_of key ps ≢ []
    → has_purged key journal ≡ false
    → WholeOf (blocks_of key (map (block_at device.shelf) ps)) records ended
    → Reads (volumes_on device.shelf) key (spans_of key ps) records ended
