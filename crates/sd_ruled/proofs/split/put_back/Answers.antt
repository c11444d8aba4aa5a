use Rattle.sd_ruled.proofs.Steps.{puts, learns}
use Rattle.sd_ruled.proofs.split.put_back.Goals as goal

pub push_as-requires-clause-rule : goal.push_as-requires-clause-rule
push_as-requires-clause-rule g c = (puts _ _ _ _ _ c.requires.pass.1 c.requires.lane.0 c.requires.lane.1, learns _ _)
