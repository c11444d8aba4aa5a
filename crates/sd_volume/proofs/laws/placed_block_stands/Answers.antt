use Rattle.sd_volume.proofs.ImageLemmas.{placed_block_stands}
use Rattle.sd_volume.proofs.laws.placed_block_stands.Goals as goal

pub returns : goal.returns
returns c = placed_block_stands
