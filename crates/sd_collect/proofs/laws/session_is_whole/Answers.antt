use Rattle.sd_collect.proofs.WholeLemmas.{session_whole}
use Rattle.sd_collect.proofs.laws.session_is_whole.Goals as goal

pub returns : goal.returns
returns c = session_whole
