use Rattle.sd_journal.proofs.EntryLemmas.{purging}
use Rattle.sd_journal.proofs.laws.purging_marks.Goals as goal

pub returns : goal.returns
returns c = purging
