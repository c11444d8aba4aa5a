use Rattle.sd_block.proofs.ImageLemmas.{length-block_image}
use Rattle.sd_block.proofs.laws.length_of_an_image.Goals as goal

pub returns : goal.returns
returns c = length-block_image
