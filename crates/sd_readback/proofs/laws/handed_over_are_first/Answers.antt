use Rattle.sd_readback.proofs.HandsOverLemmas.{front_of_records}
use Rattle.sd_readback.proofs.laws.handed_over_are_first.Goals as goal

pub returns : goal.returns
returns c = front_of_records
