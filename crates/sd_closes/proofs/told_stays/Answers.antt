use Rattle.sd_closes.proofs.Told.{told_stays}
use Rattle.sd_closes.proofs.told_stays.Goals as goal

pub returns : goal.returns
returns c = told_stays
