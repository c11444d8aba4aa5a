use Rattle.sd_world.proofs.LastLemmas.{synced_spans_last}
use Rattle.sd_world.proofs.spans.synced_spans_last.Goals as goal

pub returns : goal.returns
returns c = synced_spans_last
