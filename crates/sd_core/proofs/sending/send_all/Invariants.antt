use Rattle.std.proofs.Common.{take}
use Rattle.sd_core.specs.Rounds.{AreSends, PlaysOn}
use Rattle.sd_core.proofs.sending.send_all.Given as goal

-- the sessions so far
abbrev pub invariant-loop-ticket : goal.invariant-loop-ticket
invariant-loop-ticket g l = PlaysOn g.D.Driver.meaning (AreSends (take l.ticket-index l.tickets)) l.fn.world l.sent l.world
