use Rattle.std.specs.Prelude.{IsTrue}
use Rattle.sd_world.proofs.LastLemmas.{adoption_keeps_lasting}
use Rattle.sd_world.proofs.spans.adoption_keeps_lasting.Goals as goal

pub returns : goal.returns
returns c = λ keeps. adoption_keeps_lasting (λ volume. IsTrue (keeps volume))
