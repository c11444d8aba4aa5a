use Rattle.sd_world.proofs.StandLemmas.{steps_keep_spans}
use Rattle.sd_world.proofs.laws.steps_keep_spans.Goals as goal

pub returns : goal.returns
returns g c = λ meaning old new event reply sound step. steps_keep_spans meaning old new event reply sound step
