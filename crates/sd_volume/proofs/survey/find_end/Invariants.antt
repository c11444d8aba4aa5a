use Rattle.std.proofs.Common.{◌≡◌, ◌-◌, ◌*◌, ◌≤◌, ◌⊎◌, Some}
use Rattle.sd_driver.specs.Meaning.{IsHonest}
use Rattle.sd_driver.specs.Shelf.{Held}
use Rattle.sd_label.specs.declared.label.VolumeLabel.{VolumeLabel}
use Rattle.sd_volume.specs.Adopt.{GoesUpTo}
use Rattle.sd_volume.specs.Device.{OnlyReads}
use Rattle.sd_volume.specs.Noted.{EndsWithBlock}
use Rattle.sd_volume.specs.Reader.{Shows}
use Rattle.sd_volume.proofs.survey.find_end.Given as goal

abbrev pub invariant-loop-head : goal.invariant-loop-head
invariant-loop-head g l =
    let old = g.D.Driver.meaning l.initial.driver in
    let now = g.D.Driver.meaning l.driver in
    record {
      name : l.reader.name ≡ l.initial.reader.name;
      device : OnlyReads ⊥ old now;
      first : l.fn.known.end ≤ l.end;
      end : l.end ≤ l.size;
      least : 1 ≤ l.next_number;
      next : l.next_number * 36 ≤ l.end;
      shows : IsHonest old → Shows l.initial.reader old.shelf → Shows l.reader now.shelf;
      goes : IsHonest old → Shows l.initial.reader old.shelf → (held : Held) → old.shelf.volume l.initial.reader.name ≡ Some held → (label : VolumeLabel)
          → GoesUpTo l.start_time held.bytes label l.fn.known.end l.fn.known.next_number l.fn.known.last → GoesUpTo l.start_time held.bytes label l.end l.next_number l.last;
      stands : IsHonest old → Shows l.initial.reader old.shelf → (held : Held) → old.shelf.volume l.initial.reader.name ≡ Some held
          → EndsWithBlock l.start_time held.bytes l.last l.end l.next_number ⊎ ((l.last ≡ l.fn.known.last) × (l.end ≡ l.fn.known.end) × (l.next_number ≡ l.fn.known.next_number));
    }

abbrev pub decreases-loop-head : goal.decreases-loop-head
decreases-loop-head g l = l.size - l.end
