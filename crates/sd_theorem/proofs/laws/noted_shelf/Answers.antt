use Rattle.sd_theorem.proofs.Noted.{noted_shelf}
use Rattle.sd_theorem.proofs.laws.noted_shelf.Goals as goal

pub returns : goal.returns
returns g c = λ is spans notes bytes since now left last others all stop runs. noted_shelf _ is spans notes bytes since now left last others all stop runs
