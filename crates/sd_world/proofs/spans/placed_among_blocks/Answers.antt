use Rattle.sd_world.proofs.RestoreLemmas.{placed_among_blocks}
use Rattle.sd_world.proofs.spans.placed_among_blocks.Goals as goal

pub returns : goal.returns
returns c = placed_among_blocks
