use Rattle.sd_core.proofs.RoundParts.{TurnedBelow}
use Rattle.sd_core.proofs.turns.turn_all.Given as goal

-- the drives so far
abbrev pub invariant-loop-number : goal.invariant-loop-number
invariant-loop-number g l = TurnedBelow g.D.Driver.meaning l.fn.world l.number l.turned l.world
