use Rattle.std.proofs.Common.{ap}
use Rattle.sd_ruled.specs.Passes.{PassView}
use Rattle.sd_ruled.proofs.Counts.{lifted_lane}
use Rattle.sd_ruled.proofs.Steps.{lifts, learns}
use Rattle.sd_ruled.proofs.split.turn_one.Goals as goal

pub pop_as-requires-clause-rule : goal.pop_as-requires-clause-rule
pop_as-requires-clause-rule g c = let is = c.requires.pass.1 in (lifts _ _ (ap (λ (v : PassView). v.takes) is) (ap (λ (v : PassView). v.away) is), learns _ _)

pub put_back-requires-clause-lane : goal.put_back-requires-clause-lane
put_back-requires-clause-lane g c = lifted_lane _ _ _ c.in-Some.ensures.rule
