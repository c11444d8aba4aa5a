use Rattle.std.proofs.Common.{sym, subst, ap}
use Rattle.sd_line.proofs.CountLemmas.{counts_none, no_counts}
use Rattle.sd_line.specs.Counts.{CountsEach, taken_of}
use Rattle.sd_line.proofs.counts.LaneCounts.new.Goals as goal

pub invariant_of-result : goal.invariant_of-result
invariant_of-result c = subst (CountsEach no_counts) (sym (ap taken_of c.new.ensures)) counts_none
