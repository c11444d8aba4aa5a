use Rattle.std.proofs.Common.{take}
use Rattle.sd_core.specs.Conf.{AreQueues}
use Rattle.sd_tool.proofs.making.queues_of.Given as goal

-- the queues so far
abbrev pub invariant-loop-drive : goal.invariant-loop-drive
invariant-loop-drive g l = AreQueues (λ q. record { lanes = g.Q.Lane.lanes q; capacity = g.Q.Lane.capacity q; held = g.Q.Lane.held q }) l.room (take l.drive-index l.drives) l.queues.items
