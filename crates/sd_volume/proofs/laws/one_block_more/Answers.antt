use Rattle.sd_volume.proofs.ImageLemmas.{one_block_more}
use Rattle.sd_volume.proofs.laws.one_block_more.Goals as goal

pub returns : goal.returns
returns c = one_block_more
