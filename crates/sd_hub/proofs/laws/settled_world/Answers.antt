use Rattle.sd_hub.proofs.SettledWorlds.{settled_world}
use Rattle.sd_hub.proofs.laws.settled_world.Goals as goal

pub returns : goal.returns
returns g c = λ meaning table time checked settled told w settles kept becomes. settled_world meaning table time checked settled told w settles kept becomes
