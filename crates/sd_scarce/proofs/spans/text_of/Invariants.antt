use Rattle.std.specs.Prelude.{All}
use Rattle.sd_span.specs.Spans.{EndFits}
use Rattle.sd_scarce.proofs.spans.text_of.Given as goal

abbrev pub invariant-loop-row : goal.invariant-loop-row
invariant-loop-row l = All EndFits l.placements.items
