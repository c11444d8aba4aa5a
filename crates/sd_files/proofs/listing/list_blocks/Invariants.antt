use Rattle.std.proofs.Common.{◌≡◌, ◌-◌, ◌*◌, ◌≤◌, ℕ, List, length, Some}
use Rattle.sd_driver.specs.Meaning.{IsHonest}
use Rattle.sd_driver.specs.Shelf.{Held, BeginsWith}
use Rattle.sd_label.specs.Label.{IsVolumeLabel}
use Rattle.sd_label.specs.declared.label.VolumeLabel.{VolumeLabel}
use Rattle.sd_volume.specs.Device.{OnlyReads}
use Rattle.sd_volume.specs.Image.{label_block}
use Rattle.sd_volume.specs.Reader.{Shows}
use Rattle.sd_files.specs.Listing.{ListsUpTo}
use Rattle.sd_text.specs.Says.{Says, said_view}
use Rattle.sd_files.proofs.ListingLemmas.{LinesUpTo}
use Rattle.sd_files.proofs.listing.list_blocks.Given as goal

abbrev pub invariant-loop-head : goal.invariant-loop-head
invariant-loop-head g l =
    let old = g.D.Driver.meaning l.initial.driver in
    let now = g.D.Driver.meaning l.driver in
    record {
      name : l.reader.name ≡ l.initial.reader.name;
      device : OnlyReads ⊥ old now;
      first : l.first ≤ l.end;
      end : l.end ≤ l.size;
      least : 1 ≤ l.number;
      next : l.number * 36 ≤ l.end;
      shows : IsHonest old → Shows l.initial.reader old.shelf → Shows l.reader now.shelf;
      lists : (due : List ℕ) × Says (said_view g.W.Write.contents l.initial.out) (said_view g.W.Write.contents l.out) due
          × LinesUpTo l.first l.end l.number due
          × (IsHonest old → Shows l.initial.reader old.shelf → (held : Held) → old.shelf.volume l.initial.reader.name ≡ Some held
          → (label : VolumeLabel) → IsVolumeLabel label → l.first ≡ length (label_block label) → BeginsWith held.bytes (label_block label)
          → ListsUpTo held.bytes label l.end l.number due);
    }

abbrev pub decreases-loop-head : goal.decreases-loop-head
decreases-loop-head g l = l.size - l.end
