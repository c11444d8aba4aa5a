use Rattle.sd_theorem.proofs.Stops.{stop_theorem}
use Rattle.sd_theorem.proofs.laws.stop_theorem.Goals as goal

pub returns : goal.returns
returns g c = λ is start key spans w was. stop_theorem is start key spans w was
