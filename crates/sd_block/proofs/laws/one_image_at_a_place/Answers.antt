use Rattle.sd_block.proofs.ImageLemmas.{one_image}
use Rattle.sd_block.proofs.laws.one_image_at_a_place.Goals as goal

pub returns : goal.returns
returns c = one_image
