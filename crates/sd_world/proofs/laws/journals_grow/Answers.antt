use Rattle.sd_world.proofs.GrowLemmas.{journals_grow}
use Rattle.sd_world.proofs.laws.journals_grow.Goals as goal

pub returns : goal.returns
returns g c = λ meaning old new event reply m. journals_grow meaning old new event reply m
