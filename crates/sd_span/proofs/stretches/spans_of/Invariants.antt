use Rattle.std.proofs.Common.{◌≡◌, take}
use Rattle.sd_span.specs.Spans.{placements_of, stretches}
use Rattle.sd_span.proofs.stretches.spans_of.Given as goal

abbrev pub invariant-loop-placement : goal.invariant-loop-placement
invariant-loop-placement l = l.stretches.items ≡ stretches (placements_of l.fn.key (take l.placement-index l.placements))
