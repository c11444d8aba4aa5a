use Rattle.sd_append.proofs.SessionsOver.{sessions_are_over}
use Rattle.sd_append.proofs.laws.sessions_are_over.Goals as goal

pub returns : goal.returns
returns g c = λ moment packets rest asked out end talk. sessions_are_over moment packets rest asked out end talk
