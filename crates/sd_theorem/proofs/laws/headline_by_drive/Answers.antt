use Rattle.sd_theorem.proofs.Head.{by_drive}
use Rattle.sd_theorem.proofs.laws.headline_by_drive.Goals as goal

pub returns : goal.returns
returns g c = λ is start first w deeds made leads. by_drive is start first w deeds made leads
