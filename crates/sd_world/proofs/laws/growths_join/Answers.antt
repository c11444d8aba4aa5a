use Rattle.sd_world.proofs.GrowLemmas.{growths_join}
use Rattle.sd_world.proofs.laws.growths_join.Goals as goal

pub returns : goal.returns
returns g c = λ old middle new first second. growths_join old middle new first second
