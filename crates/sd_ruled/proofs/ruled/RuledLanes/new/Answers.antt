use Rattle.sd_ruled.proofs.Steps.{begins}
use Rattle.sd_ruled.proofs.ruled.RuledLanes.new.Goals as goal

pub ruled-requires-clause-rule : goal.ruled-requires-clause-rule
ruled-requires-clause-rule g c = begins
