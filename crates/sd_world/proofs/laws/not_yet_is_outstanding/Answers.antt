use Rattle.sd_world.proofs.Close.{not_yet}
use Rattle.sd_world.proofs.laws.not_yet_is_outstanding.Goals as goal

pub returns : goal.returns
returns c s = not_yet
