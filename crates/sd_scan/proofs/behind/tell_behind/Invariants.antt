use Rattle.std.proofs.Common.{◌≡◌, ◌-◌, ℕ, List, length}
use Rattle.std.specs.Prelude.{Some}
use Rattle.sd_driver.specs.Meaning.{IsHonest}
use Rattle.sd_driver.specs.Shelf.{Held}
use Rattle.sd_text.specs.Says.{Says, said_view}
use Rattle.sd_volume.specs.Device.{OnlyReads}
use Rattle.sd_volume.specs.Reader.{Shows}
use Rattle.sd_scan.proofs.VolumeLemmas.{GoesOn}
use Rattle.sd_scan.proofs.behind.tell_behind.Given as goal

abbrev pub invariant-loop-from : goal.invariant-loop-from
invariant-loop-from g l =
    let old = g.D.Driver.meaning l.initial.driver in
    let now = g.D.Driver.meaning l.driver in
    record {
      name : l.reader.name ≡ l.initial.reader.name;
      device : OnlyReads ⊥ old now;
      shows : IsHonest old → Shows l.initial.reader old.shelf → Shows l.reader now.shelf;
      tells : (due : List ℕ) × Says (said_view g.W.Write.contents l.initial.out) (said_view g.W.Write.contents l.out) due
          × (IsHonest old → Shows l.initial.reader old.shelf → (held : Held) → old.shelf.volume l.initial.reader.name ≡ Some held → l.size ≡ length held.bytes
          → GoesOn l.told l.name held.bytes l.end l.from due);
    }

abbrev pub decreases-loop-from : goal.decreases-loop-from
decreases-loop-from g l = l.size - l.from
