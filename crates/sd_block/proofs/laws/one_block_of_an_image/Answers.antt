use Rattle.sd_block.proofs.ImageLemmas.{one_block}
use Rattle.sd_block.proofs.laws.one_block_of_an_image.Goals as goal

pub returns : goal.returns
returns c = one_block
