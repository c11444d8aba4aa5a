use Rattle.std.proofs.Common.{◌≤◌, ◌-◌, ℕ, List}
use Rattle.sd_volume.specs.Device.{OnlyReads}
use Rattle.sd_readback.specs.Device.{IsReading}
use Rattle.sd_readback.proofs.PartLemmas.{HasReadPart}
use Rattle.sd_readback.proofs.read.read_part.Given as goal

abbrev pub invariant-loop-at : goal.invariant-loop-at
invariant-loop-at g l =
    let old = g.D.Driver.meaning l.initial.driver in
    let now = g.D.Driver.meaning l.driver in
    record {
      within : l.at ≤ l.end;
      device : OnlyReads ⊥ old now;
      still : (bytes : List ℕ) → IsReading old l.initial.volume l.end bytes → IsReading now l.volume l.end bytes;
      part : HasReadPart l.initial.reader l.reader (g.S.Sink.got l.initial.sink) (g.S.Sink.got l.sink) l.start l.at l.end l.last (IsReading old l.initial.volume l.end);
    }

abbrev pub decreases-loop-at : goal.decreases-loop-at
decreases-loop-at g l = l.end - l.at
