use Rattle.sd_machine.proofs.RunLemmas.{closed_keep_their_status}
use Rattle.sd_machine.proofs.laws.closed_keep_their_status.Goals as goal

pub returns : goal.returns
returns c = closed_keep_their_status
