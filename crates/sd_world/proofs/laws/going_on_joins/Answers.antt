use Rattle.std.specs.Prelude.{IsTrue}
use Rattle.sd_world.proofs.GrowLemmas.{going_on_joins}
use Rattle.sd_world.proofs.laws.going_on_joins.Goals as goal

pub returns : goal.returns
returns g c = λ meaning first then old middle new one two. going_on_joins meaning (λ name. IsTrue (first name)) (λ name. IsTrue (then name)) old middle new one two
