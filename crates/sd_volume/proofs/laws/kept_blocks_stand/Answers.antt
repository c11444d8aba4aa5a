use Rattle.sd_volume.proofs.ImageLemmas.{kept_blocks_stand}
use Rattle.sd_volume.proofs.laws.kept_blocks_stand.Goals as goal

pub returns : goal.returns
returns c = kept_blocks_stand
