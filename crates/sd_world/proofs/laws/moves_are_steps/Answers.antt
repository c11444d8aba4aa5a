use Rattle.sd_world.proofs.MovesSteps.{moves_steps}
use Rattle.sd_world.proofs.laws.moves_are_steps.Goals as goal

pub returns : goal.returns
returns c s = moves_steps
