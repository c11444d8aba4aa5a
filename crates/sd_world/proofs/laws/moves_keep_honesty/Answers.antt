use Rattle.sd_world.proofs.HonestSteps.{moves_keep_honesty}
use Rattle.sd_world.proofs.laws.moves_keep_honesty.Goals as goal

pub returns : goal.returns
returns g c = λ meaning old new event reply h m honest. moves_keep_honesty meaning old new event reply h m honest
