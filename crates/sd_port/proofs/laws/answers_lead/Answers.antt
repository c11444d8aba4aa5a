use Rattle.sd_world.proofs.DeedLemmas.{steps_lead}
use Rattle.sd_core.proofs.TryLemmas.{answers_along}
use Rattle.sd_port.proofs.laws.answers_lead.Goals as goal

pub returns : goal.returns
returns g c = λ meaning rounds old new event reply events replies answers.
    (steps_lead meaning old new events replies (answers_along meaning rounds event reply old new events replies answers)).0
