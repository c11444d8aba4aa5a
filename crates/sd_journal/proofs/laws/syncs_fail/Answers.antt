use Rattle.sd_journal.proofs.EntryLemmas.{failing}
use Rattle.sd_journal.proofs.laws.syncs_fail.Goals as goal

pub returns : goal.returns
returns c = failing
