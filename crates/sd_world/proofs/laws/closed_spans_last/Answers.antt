use Rattle.sd_world.proofs.ReadLemmas.{closed_spans_last}
use Rattle.sd_world.proofs.laws.closed_spans_last.Goals as goal

pub returns : goal.returns
returns g c = λ meaning w m key spans at bay d pairs closed h. closed_spans_last meaning w m key spans at bay d pairs closed h
