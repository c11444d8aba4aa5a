use Rattle.std.proofs.Common.{option_copied, option_map}
use Rattle.sd_core.specs.Again.{event_again}
use Rattle.sd_core.specs.Tries.{Tried}
use Rattle.sd_core.proofs.tries.repeat.Given as goal

-- the tries so far
abbrev pub invariant-loop-played : goal.invariant-loop-played
invariant-loop-played g l =
    Tried g.D.Driver.meaning (option_map event_again (option_copied l.asked)) l.fn.world l._played l.all.placed l.world
