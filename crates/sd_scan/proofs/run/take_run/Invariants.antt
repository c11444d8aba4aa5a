use Rattle.std.proofs.Common.{◌≡◌, ◌-◌, ◌≤◌, ◌^◌, List, ◌++◌}
use Rattle.std.specs.Prelude.{Some}
use Rattle.sd_driver.specs.Meaning.{IsHonest}
use Rattle.sd_driver.specs.Shelf.{Held}
use Rattle.sd_scan.specs.Found.{Found}
use Rattle.sd_scan.specs.Sessions.{Keeps}
use Rattle.sd_volume.specs.Device.{OnlyReads}
use Rattle.sd_volume.specs.Image.{Block}
use Rattle.sd_volume.specs.Reader.{Shows}
use Rattle.sd_scan.specs.Run.{StandUpTo, found_from}
use Rattle.sd_scan.proofs.run.take_run.Given as goal

abbrev pub invariant-loop-head : goal.invariant-loop-head
invariant-loop-head g l =
    let old = g.D.Driver.meaning l.initial.driver in
    let now = g.D.Driver.meaning l.driver in
    record {
      chain : l.chain.so_far.end ≡ l.end;
      name : l.reader.name ≡ l.initial.reader.name;
      device : OnlyReads ⊥ old now;
      from : l.start ≤ l.end;
      end : l.end ≤ l.size;
      most : l.number ≤ 2 ^ 32;
      shows : IsHonest old → Shows l.initial.reader old.shelf → Shows l.reader now.shelf;
      takes : (more : List Found) × ((found : List Found) → Keeps found l.initial.sessions → Keeps (found ++ more) l.sessions)
          × (IsHonest old → Shows l.initial.reader old.shelf → (held : Held) → old.shelf.volume l.initial.reader.name ≡ Some held
          → (blocks : List Block) × (more ≡ found_from l.name l.start blocks) × StandUpTo held.bytes l.start l.first l.end l.number blocks);
    }

abbrev pub decreases-loop-head : goal.decreases-loop-head
decreases-loop-head g l = l.size - l.end
