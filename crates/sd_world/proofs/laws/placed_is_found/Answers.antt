use Rattle.sd_world.proofs.ClaimLemmas.{placed_is_found}
use Rattle.sd_world.proofs.laws.placed_is_found.Goals as goal

pub returns : goal.returns
returns g c = λ meaning w key drive at bay d ps more h online kept split. placed_is_found meaning w key drive at bay d ps more h online kept split
