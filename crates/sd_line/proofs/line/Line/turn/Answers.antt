use Rattle.sd_line.proofs.line.Line.turn.Goals as goal

pub returns : goal.returns
returns g c = (_, _, c.turn_on.ensures.turns)
