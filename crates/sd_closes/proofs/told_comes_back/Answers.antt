use Rattle.sd_closes.proofs.Told.{told_comes_back}
use Rattle.sd_closes.proofs.told_comes_back.Goals as goal

pub returns : goal.returns
returns c = told_comes_back
