use Rattle.sd_theorem.proofs.Stops.{stop_by_drive}
use Rattle.sd_theorem.proofs.laws.stop_by_drive.Goals as goal

pub returns : goal.returns
returns g c = λ is start key spans w c honest honest_now. stop_by_drive is start key spans w c honest honest_now
