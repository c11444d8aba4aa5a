use Rattle.sd_world.proofs.EndLemmas.{kept_spans_end_with_blocks}
use Rattle.sd_world.proofs.spans.kept_spans_end_with_blocks.Goals as goal

pub returns : goal.returns
returns c = kept_spans_end_with_blocks
