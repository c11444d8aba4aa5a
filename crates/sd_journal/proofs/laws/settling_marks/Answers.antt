use Rattle.sd_journal.proofs.EntryLemmas.{settling}
use Rattle.sd_journal.proofs.laws.settling_marks.Goals as goal

pub returns : goal.returns
returns c = settling
