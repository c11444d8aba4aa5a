use Rattle.sd_world.proofs.DeedLemmas.{leads_join}
use Rattle.sd_world.proofs.laws.leads_join.Goals as goal

pub returns : goal.returns
returns g c = λ meaning old middle new first second leads then. leads_join meaning old middle new first second leads then
