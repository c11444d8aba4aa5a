use Rattle.sd_journal.proofs.EntryLemmas.{noting}
use Rattle.sd_journal.proofs.laws.noting_appends.Goals as goal

pub returns : goal.returns
returns c = noting
