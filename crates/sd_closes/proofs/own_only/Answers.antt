use Rattle.sd_closes.proofs.Pieces.{own_only}
use Rattle.sd_closes.proofs.own_only.Goals as goal

pub returns : goal.returns
returns c = own_only
