use Rattle.sd_bnet.proofs.StreamLemmas.{unique}
use Rattle.sd_bnet.proofs.laws.packets_are_unique.Goals as goal

pub returns : goal.returns
returns c = unique
