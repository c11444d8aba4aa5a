use Rattle.sd_bnet.proofs.StreamLemmas.{longest}
use Rattle.sd_bnet.proofs.laws.packets_are_longest.Goals as goal

pub returns : goal.returns
returns c = longest
