use Rattle.sd_world.proofs.RestoreLemmas.{placed_read}
use Rattle.sd_world.proofs.spans.placed_read.Goals as goal

pub returns : goal.returns
returns c = placed_read
