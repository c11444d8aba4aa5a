use Rattle.std.proofs.Common.{◌+◌, drop}
use Rattle.std.specs.Prelude.{◌↔◌}
use Rattle.sd_readback.specs.Reading.{AreNumbered}
use Rattle.sd_readback.proofs.spans.are_spans.Given as goal

-- the spans before were right, so it is up to the others
abbrev pub invariant-loop-i : goal.invariant-loop-i
invariant-loop-i l = AreNumbered 1 l.spans ↔ AreNumbered (l.i + 1) (drop l.i l.spans)
