use Rattle.sd_ruled.proofs.Joins.{gathered, gathered_behind, last_seat}
use Rattle.sd_ruled.proofs.split.+gather.Goals as goal

pub returns-in-Some-clause-theirs : goal.returns-in-Some-clause-theirs
returns-in-Some-clause-theirs t c =
    gathered _ _ _ _ _ _ c.in-Some.ensures.items (last_seat _ _ _ _ c.requires.seats c.in-Some.ensures.items).1 c.take_in.ensures.before c.gather.ensures.behind c.gather.ensures.theirs

pub returns-in-Some-clause-behind : goal.returns-in-Some-clause-behind
returns-in-Some-clause-behind t c = gathered_behind _ _ _ _ _ _ c.in-Some.ensures.items (last_seat _ _ _ _ c.requires.seats c.in-Some.ensures.items).1 c.take_in.ensures.before c.gather.ensures.behind
