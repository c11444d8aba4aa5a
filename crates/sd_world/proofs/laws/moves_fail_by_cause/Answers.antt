use Rattle.sd_world.proofs.FailSteps.{fail_by_cause}
use Rattle.sd_world.proofs.laws.moves_fail_by_cause.Goals as goal

pub returns : goal.returns
returns g c = λ meaning old new event reply h m. fail_by_cause meaning old new event reply h m
