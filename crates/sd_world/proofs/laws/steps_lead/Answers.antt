use Rattle.sd_world.proofs.DeedLemmas.{steps_lead}
use Rattle.sd_world.proofs.laws.steps_lead.Goals as goal

pub returns : goal.returns
returns g c = λ meaning old new events replies along. steps_lead meaning old new events replies along
