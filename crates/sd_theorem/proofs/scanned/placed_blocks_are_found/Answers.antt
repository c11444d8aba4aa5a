use Rattle.sd_theorem.proofs.PlacedLemmas.{placed_blocks_are_found}
use Rattle.sd_theorem.proofs.scanned.placed_blocks_are_found.Goals as goal

pub returns : goal.returns
returns c = placed_blocks_are_found
