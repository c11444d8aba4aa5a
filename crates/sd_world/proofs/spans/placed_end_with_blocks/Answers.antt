use Rattle.sd_world.proofs.EndLemmas.{placed_end_with_blocks}
use Rattle.sd_world.proofs.spans.placed_end_with_blocks.Goals as goal

pub returns : goal.returns
returns c = placed_end_with_blocks
