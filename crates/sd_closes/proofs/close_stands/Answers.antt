use Rattle.sd_closes.proofs.Told.{close_stands}
use Rattle.sd_closes.proofs.close_stands.Goals as goal

pub returns : goal.returns
returns c = close_stands
