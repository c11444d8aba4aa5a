use Rattle.std.proofs.Common.{◌++◌, ◌∷◌, [], ap, ◌∙◌}
use Rattle.sd_append.specs.Port.{Stepped}
use Rattle.sd_machine.specs.declared.event.Event.{Event}
use Rattle.sd_port.proofs.DeedLemmas.{over_exchange}
use Rattle.sd_port.proofs.port.WorldPort.step.Goals as goal

pub invariant_of-self : goal.invariant_of-self
invariant_of-self g c =
    over_exchange g.D.Driver.meaning (record { world = c.self.inside.world; moment = c.self.inside.moment; rounds = c.self.inside.rounds; opening = c.self.inside.opening.value; asked = c.self.inside.exchanges }) (Stepped c.args.event c.answer-reply.result) c.answer-reply.ensures.0 c.answer-reply.ensures.1 c.answer-reply.new.world c.stepped.result c.self.invariant
    c.answer-reply.ensures.2 (c.stepped.ensures ∙ ap (λ (e : Event). c.self.inside.exchanges ++ Stepped e c.answer-reply.result ∷ []) c.of-given.ensures)

pub returns-clause-answers : goal.returns-clause-answers
returns-clause-answers g c = rw (← c.self.view_is) c.answer-reply.ensures
