use Rattle.sd_theorem.proofs.ToldCloses.{shown_closes_come_back}
use Rattle.sd_theorem.proofs.running.shown_closes_come_back.Goals as goal

pub returns : goal.returns
returns g c = λ is time side token part receipt was honest store. shown_closes_come_back is time side token part receipt was honest store
