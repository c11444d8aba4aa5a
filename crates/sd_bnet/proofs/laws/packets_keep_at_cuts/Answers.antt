use Rattle.sd_bnet.proofs.StreamLemmas.{apart}
use Rattle.sd_bnet.proofs.laws.packets_keep_at_cuts.Goals as goal

pub returns-clause-apart : goal.returns-clause-apart
returns-clause-apart c = apart
