use Rattle.std.proofs.Common.{length}
use Rattle.sd_span.proofs.TextLemmas.{Taken}
use Rattle.sd_span.proofs.jobmedia.read_jobmedia.Given as goal

abbrev pub invariant-loop-line : goal.invariant-loop-line
invariant-loop-line l = Taken l.text l.key l.lines l.kept

abbrev pub decreases-loop-line : goal.decreases-loop-line
decreases-loop-line l = length l.lines
