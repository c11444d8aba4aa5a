use Rattle.sd_world.proofs.LastLemmas.{lasting_spans_kept}
use Rattle.sd_world.proofs.spans.lasting_spans_kept.Goals as goal

pub returns : goal.returns
returns c = lasting_spans_kept
