use Rattle.sd_record.proofs.RecordLemmas.{fragments_of_one}
use Rattle.sd_record.proofs.laws.fragments_are_of_one_record.Goals as goal

pub returns : goal.returns
returns c = fragments_of_one
