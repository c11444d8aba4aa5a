use Rattle.std.proofs.Common.{ap, ◌∙◌}
use Rattle.sd_line.specs.Ends.{ToldSession}
use Rattle.sd_returned.proofs.EndLemmas.{last_is, none_last}
use Rattle.sd_returned.proofs.asked.last_spools.Goals as goal

pub returns-in-Some : goal.returns-in-Some
returns-in-Some g c = ap (λ (t : ToldSession). t.spools) c.told.view_is ∙ last_is c.args.sessions.now c.in-Some.told.now c.in-Some.ensures.value

pub returns-in-None : goal.returns-in-None
returns-in-None g c = none_last c.args.sessions.now c.in-None.ensures.value
