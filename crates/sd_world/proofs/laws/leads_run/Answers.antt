use Rattle.sd_world.proofs.DeedLemmas.{leads_run}
use Rattle.sd_world.proofs.laws.leads_run.Goals as goal

pub returns : goal.returns
returns g c = λ meaning old new deeds m sound leads pairs. leads_run meaning old new deeds m sound leads pairs
