use Rattle.std.proofs.Common.{◌∷◌, [], refl, sym, ap, ◌∙◌, inl, inr}
use Rattle.std.specs.Prelude.{Ok, Err}
use Rattle.sd_machine.specs.declared.reply.Reply.TheVariants.{Refused}
use Rattle.sd_port.proofs.ConsoleLemmas.{done_otherwise}
use Rattle.sd_port.proofs.console.operate.Goals as goal

pub returns-in-Err : goal.returns-in-Err
returns-in-Err g c = ([], [], inl (ap Err c.in-Err.ensures.err, (refl, refl, refl)))

pub returns-in-Refused : goal.returns-in-Refused
returns-in-Refused g c =
    (c.args.event ∷ [], Refused c.in-Refused.why ∷ [], inr (Refused c.in-Refused.why, (refl, refl, c.in-Refused.ensures), refl))

pub returns-in_default : goal.returns-in_default
returns-in_default g c = (
  c.args.event ∷ [],
  c.step.result ∷ [],
  inr (c.step.result, (refl, refl, c.step.ensures), ap Ok c.in-Ok.ensures.ok ∙ sym (done_otherwise c.args.words.now c.step.result c.in_default.not-Refused)),
)
