use Rattle.std.proofs.Common.{◌≡◌, take}
use Rattle.sd_span.specs.Spans.{numbered_from}
use Rattle.sd_span.proofs.stretches.numbered.Given as goal

abbrev pub invariant-loop-index : goal.invariant-loop-index
invariant-loop-index l = l.spans.items ≡ numbered_from 1 (take l.index l.stretches)
