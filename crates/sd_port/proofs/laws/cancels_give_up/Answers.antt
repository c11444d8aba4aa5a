use Rattle.sd_port.proofs.CancelLemmas.{given_up}
use Rattle.sd_port.proofs.laws.cancels_give_up.Goals as goal

pub returns : goal.returns
returns g c = λ meaning rounds old new ticket reply events replies answers. given_up meaning rounds old new ticket reply events replies answers
