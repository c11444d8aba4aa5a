use Rattle.sd_returned.proofs.ReadLemmas.{reading_keeps_lists}
use Rattle.sd_returned.proofs.laws.reading_keeps_lists.Goals as goal

pub returns : goal.returns
returns g c = reading_keeps_lists
