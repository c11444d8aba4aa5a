use Rattle.sd_readback.proofs.ReadingLemmas.{reads_one}
use Rattle.sd_readback.proofs.laws.reads_to_one_list.Goals as goal

pub returns : goal.returns
returns c = reads_one
