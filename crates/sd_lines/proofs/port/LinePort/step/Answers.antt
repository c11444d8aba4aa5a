use Rattle.std.proofs.Common.{◌++◌, ◌∷◌, [], sym, ap, ◌∙◌}
use Rattle.sd_append.specs.Port.{Stepped}
use Rattle.sd_machine.specs.declared.event.Event.{Event}
use Rattle.sd_lines.specs.Held.{last_of}
use Rattle.sd_lines.specs.Taken.{taken_last}
use Rattle.sd_lines.proofs.HeldLemmas.{keeps_stepped}
use Rattle.sd_lines.proofs.port.LinePort.step.Goals as goal

pub invariant_of-self : goal.invariant_of-self
invariant_of-self g c =
    let log = c.self.inside.exchanges in
    let logged = c.stepped.ensures ∙ ap (λ (e : Event). log ++ Stepped e c.answer-reply.result ∷ []) c.of-given.ensures in
    keeps_stepped log c.args.event c.answer-reply.result (last_of c.self.inside.held) (last_of c.answer-reply.new.self) c.self.invariant c.answer-reply.ensures.answers
    ∙ ap taken_last (sym logged)

pub returns-clause-answers : goal.returns-clause-answers
returns-clause-answers g c = rw (← c.self.view_is) c.answer-reply.ensures.answers
