use Rattle.sd_world.proofs.ClaimLemmas.{closed_is_found}
use Rattle.sd_world.proofs.laws.closed_is_found.Goals as goal

pub returns : goal.returns
returns g c = λ meaning w key spans at bay d h closed online kept. closed_is_found meaning w key spans at bay d h closed online kept
