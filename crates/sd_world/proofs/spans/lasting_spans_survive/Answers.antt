use Rattle.sd_world.proofs.LastLemmas.{lasting_spans_survive}
use Rattle.sd_world.proofs.spans.lasting_spans_survive.Goals as goal

pub returns : goal.returns
returns c = lasting_spans_survive
