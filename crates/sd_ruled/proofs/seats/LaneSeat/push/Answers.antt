use Rattle.sd_ruled.proofs.Steps.{sends, learns}
use Rattle.sd_ruled.proofs.seats.LaneSeat.push.Goals as goal

pub push_as-requires-clause-rule : goal.push_as-requires-clause-rule
push_as-requires-clause-rule g c = (sends _ _ _ _ _ c.self.invariant.1, learns _ _)
