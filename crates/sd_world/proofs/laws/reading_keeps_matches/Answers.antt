use Rattle.sd_world.proofs.MovesSteps.{reading_keeps}
use Rattle.sd_world.proofs.laws.reading_keeps_matches.Goals as goal

pub returns : goal.returns
returns c s = reading_keeps
