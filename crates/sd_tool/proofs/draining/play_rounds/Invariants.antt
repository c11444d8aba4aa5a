use Rattle.std.proofs.Common.{None}
use Rattle.sd_core.specs.Tries.{Tried}
use Rattle.sd_tool.proofs.draining.play_rounds.Given as goal

-- the rounds so far, in each of which something moved
abbrev pub invariant-loop-played : goal.invariant-loop-played
invariant-loop-played g l = Tried g.D.Driver.meaning None l.fn.port.world l._played l.placed l.port.world
