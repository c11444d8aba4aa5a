use Rattle.sd_world.proofs.GrowLemmas.{moves_go_on}
use Rattle.sd_world.proofs.laws.moves_go_on.Goals as goal

pub returns : goal.returns
returns g c = λ meaning old new event reply m. moves_go_on meaning old new event reply m
