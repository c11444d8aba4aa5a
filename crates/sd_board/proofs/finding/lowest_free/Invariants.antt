use Rattle.sd_base.proofs.ChoiceLemmas.{NoneBelow}
use Rattle.sd_board.specs.Slots.{IsFree}
use Rattle.sd_board.proofs.finding.lowest_free.Given as goal

-- none of the lanes so far is free
abbrev pub invariant-loop-at : goal.invariant-loop-at
invariant-loop-at g l = NoneBelow IsFree l.slots l.at
