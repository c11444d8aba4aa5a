use Rattle.std.proofs.Common.{◌≡◌, map, take}
use Rattle.sd_span.specs.Spans.{numbered_from}
use Rattle.sd_journal.specs.Stretch.{span_of}
use Rattle.sd_journal.proofs.share.spans_of.Given as goal

abbrev pub invariant-loop-at : goal.invariant-loop-at
invariant-loop-at l = l.spans.items ≡ numbered_from 1 (take l.at (map (span_of l.names.names) l.stretches))
