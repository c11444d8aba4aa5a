use Rattle.sd_volume.proofs.ImageLemmas.{one_whole_image}
use Rattle.sd_volume.proofs.laws.one_whole_image.Goals as goal

pub returns : goal.returns
returns c = one_whole_image
