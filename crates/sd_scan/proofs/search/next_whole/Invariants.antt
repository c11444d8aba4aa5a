use Rattle.std.proofs.Common.{◌≡◌, ◌-◌, ◌≤◌}
use Rattle.std.specs.Prelude.{Some}
use Rattle.sd_driver.specs.Meaning.{IsHonest}
use Rattle.sd_driver.specs.Shelf.{Held}
use Rattle.sd_volume.specs.Device.{OnlyReads}
use Rattle.sd_volume.specs.Reader.{Shows}
use Rattle.sd_scan.specs.Run.{NoneBetween}
use Rattle.sd_scan.proofs.search.next_whole.Given as goal

abbrev pub invariant-loop-at : goal.invariant-loop-at
invariant-loop-at g l =
    let old = g.D.Driver.meaning l.initial.driver in
    let now = g.D.Driver.meaning l.driver in
    record {
      name : l.reader.name ≡ l.initial.reader.name;
      device : OnlyReads ⊥ old now;
      from : l.from ≤ l.at;
      shows : IsHonest old → Shows l.initial.reader old.shelf → Shows l.reader now.shelf;
      none : IsHonest old → Shows l.initial.reader old.shelf → (held : Held) → old.shelf.volume l.initial.reader.name ≡ Some held
          → NoneBetween held.bytes l.from l.at;
    }

abbrev pub decreases-loop-at : goal.decreases-loop-at
decreases-loop-at g l = l.size - l.at
