use Rattle.sd_theorem.proofs.Noted.{noted_starts}
use Rattle.sd_theorem.proofs.laws.noted_starts.Goals as goal

pub returns : goal.returns
returns g c = λ is spans notes bytes since now left last others again all stop runs r none. noted_starts is spans notes bytes since now left last others again all stop runs r none
