use Rattle.sd_volume.proofs.ImageLemmas.{whole_image_goes_on}
use Rattle.sd_volume.proofs.laws.whole_image_goes_on.Goals as goal

pub returns : goal.returns
returns c = whole_image_goes_on
