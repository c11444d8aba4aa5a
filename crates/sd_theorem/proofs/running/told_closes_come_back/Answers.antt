use Rattle.sd_theorem.proofs.ToldCloses.{told_closes_come_back}
use Rattle.sd_theorem.proofs.running.told_closes_come_back.Goals as goal

pub returns : goal.returns
returns g c = λ is table time side part close was honest store. told_closes_come_back is table time side part close was honest store
