use Rattle.sd_journal.proofs.EntryLemmas.{counting}
use Rattle.sd_journal.proofs.laws.synced_within_placed.Goals as goal

pub returns : goal.returns
returns c = counting
