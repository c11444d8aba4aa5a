use Rattle.std.proofs.Common.{◌≡◌, ◌++◌, map, take, drop}
use Rattle.sd_journal.specs.Stretch.{marked_at}
use Rattle.sd_journal.proofs.share.mark_each.Given as goal

abbrev pub invariant-loop-at : goal.invariant-loop-at
invariant-loop-at l = l.stretches ≡ map (marked_at l.mark l.volume) (take l.at l.fn.stretches) ++ drop l.at l.fn.stretches
