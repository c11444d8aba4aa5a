use Rattle.sd_world.proofs.EndLemmas.{adoption_keeps_spans}
use Rattle.sd_world.proofs.spans.adoption_keeps_spans.Goals as goal

pub returns : goal.returns
returns c = adoption_keeps_spans
