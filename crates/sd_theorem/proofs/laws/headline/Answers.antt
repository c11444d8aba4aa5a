use Rattle.sd_theorem.proofs.Head.{headline}
use Rattle.sd_theorem.proofs.laws.headline.Goals as goal

pub returns : goal.returns
returns g c = λ is start first w deeds made leads. headline is start first w deeds made leads
