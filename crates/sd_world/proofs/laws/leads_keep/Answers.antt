use Rattle.sd_world.proofs.DeedLemmas.{leads_keep}
use Rattle.sd_world.proofs.laws.leads_keep.Goals as goal

pub returns : goal.returns
returns g c = λ meaning old new deeds sound leads. leads_keep meaning old new deeds sound leads
