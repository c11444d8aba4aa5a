use Rattle.sd_returned.proofs.ReadLemmas.{lists_are_read}
use Rattle.sd_returned.proofs.laws.lists_are_read.Goals as goal

pub returns : goal.returns
returns g c = lists_are_read
