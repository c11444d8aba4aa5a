use Rattle.sd_machine.proofs.RunLemmas.{closed_keep_their_records}
use Rattle.sd_machine.proofs.laws.closed_keep_their_records.Goals as goal

pub returns : goal.returns
returns c = closed_keep_their_records
