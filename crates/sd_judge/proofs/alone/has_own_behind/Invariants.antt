use Rattle.std.proofs.Common.{ℕ, ◌-◌, ◌<◌, ◌≤◌}
use Rattle.sd_driver.specs.Shelf.{Held}
use Rattle.sd_judge.specs.Alone.{IsOwnBehind}
use Rattle.sd_judge.specs.Reading.{IsAt}
use Rattle.sd_volume.specs.Device.{OnlyReads}
use Rattle.sd_judge.proofs.alone.has_own_behind.Given as goal

abbrev pub invariant-loop-whole : goal.invariant-loop-whole
invariant-loop-whole g l =
    let old = g.D.Driver.meaning l.initial.driver in
    let now = g.D.Driver.meaning l.driver in
    record {
      device : OnlyReads ⊥ old now;
      from : l.run.end ≤ l.from;
      at : (held : Held) → IsAt held l.initial.reader old → IsAt held l.reader now;
      none : (held : Held) → IsAt held l.initial.reader old → (p : ℕ) → p < l.from → ¬ IsOwnBehind held.bytes l.run.end l.run.next p;
    }

abbrev pub decreases-loop-whole : goal.decreases-loop-whole
decreases-loop-whole g l = l.size - l.from
