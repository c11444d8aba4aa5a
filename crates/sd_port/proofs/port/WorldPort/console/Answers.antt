use Rattle.std.proofs.Common.{◌≡◌, ℤ, to_z, of_z, w64, rules, subst}
use Rattle.sd_append.specs.Port.{Said}
use Rattle.sd_port.proofs.ConsoleLemmas.{LineDone, line_lines}
use Rattle.sd_port.proofs.DeedLemmas.{over_exchange}
use Rattle.sd_port.proofs.port.WorldPort.console.Goals as goal

pub invariant_of-self : goal.invariant_of-self
invariant_of-self g c =
    over_exchange g.D.Driver.meaning (record { world = c.self.inside.world; moment = c.self.inside.moment; rounds = c.self.inside.rounds; opening = c.self.inside.opening.value; asked = c.self.inside.exchanges }) (Said (to_z w64 (of_z w64 c.self.inside.moment)) c.args.line.now c.obey_line-answer.result) c.obey_line-answer.ensures.0 c.obey_line-answer.ensures.1 c.obey_line-answer.new.world c.said.result c.self.invariant
    c.obey_line-answer.ensures.2 c.said.ensures

-- the moment is 64 bits wide
pub returns-clause-obeys : goal.returns-clause-obeys
returns-clause-obeys g c =
    let wide : to_z w64 (of_z w64 c.self.inside.moment) ≡ c.self.inside.moment = search rules in
    rw (← c.self.view_is)
    (subst (λ (moment : ℤ). LineDone g.D.Driver.meaning moment c.args.line.now c.obey_line-answer.result c.self.inside.world c.obey_line-answer.new.world) wide c.obey_line-answer.ensures)

pub returns-clause-lines : goal.returns-clause-lines
returns-clause-lines g c =
    line_lines g.D.Driver.meaning (to_z w64 (of_z w64 c.self.inside.moment)) c.args.line.now c.obey_line-answer.result c.obey_line-answer.ensures.0 c.obey_line-answer.ensures.1 c.self.inside.world c.obey_line-answer.new.world c.obey_line-answer.ensures.2
