use Rattle.std.proofs.Common.{◌≡◌, ◌-◌, ◌≤◌, ◌^◌, List}
use Rattle.sd_driver.specs.Shelf.{Held}
use Rattle.sd_judge.specs.Reading.{IsAt}
use Rattle.sd_scan.specs.Run.{StandUpTo}
use Rattle.sd_volume.specs.Device.{OnlyReads}
use Rattle.sd_volume.specs.Image.{Block}
use Rattle.sd_judge.proofs.run.end_of_run.Given as goal

abbrev pub invariant-loop-head : goal.invariant-loop-head
invariant-loop-head g l =
    let old = g.D.Driver.meaning l.initial.driver in
    let now = g.D.Driver.meaning l.driver in
    record {
      name : l.reader.name ≡ l.initial.reader.name;
      device : OnlyReads ⊥ old now;
      from : l.start ≤ l.end;
      end : l.end ≤ l.size;
      most : l.next ≤ 2 ^ 32;
      at : (held : Held) → IsAt held l.initial.reader old → IsAt held l.reader now;
      stands : (held : Held) → IsAt held l.initial.reader old → (blocks : List Block) × StandUpTo held.bytes l.start l.number l.end l.next blocks;
    }

abbrev pub decreases-loop-head : goal.decreases-loop-head
decreases-loop-head g l = l.size - l.end
