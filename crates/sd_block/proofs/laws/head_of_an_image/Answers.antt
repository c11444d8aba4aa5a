use Rattle.sd_block.proofs.ImageLemmas.{IsHeadOf-image}
use Rattle.sd_block.proofs.laws.head_of_an_image.Goals as goal

pub returns : goal.returns
returns c = IsHeadOf-image
