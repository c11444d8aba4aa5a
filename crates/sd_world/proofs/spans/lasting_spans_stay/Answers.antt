use Rattle.std.specs.Prelude.{IsTrue}
use Rattle.sd_world.proofs.LastLemmas.{lasting_spans_stay}
use Rattle.sd_world.proofs.spans.lasting_spans_stay.Goals as goal

pub returns : goal.returns
returns c = λ keeps. lasting_spans_stay (λ volume. IsTrue (keeps volume))
