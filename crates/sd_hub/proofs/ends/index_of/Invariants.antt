use Rattle.sd_base.proofs.ChoiceLemmas.{NoneBelow}
use Rattle.sd_hub.proofs.EndLemmas.{IsOf}
use Rattle.sd_hub.proofs.ends.index_of.Given as goal

-- none of the ends so far is the lane's
abbrev pub invariant-loop-at : goal.invariant-loop-at
invariant-loop-at g l = NoneBelow (IsOf l.no l.lane) l.ends l.at
