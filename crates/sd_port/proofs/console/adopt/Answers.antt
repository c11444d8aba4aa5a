use Rattle.std.proofs.Common.{◌∷◌, [], refl, ap, inl, inr}
use Rattle.std.specs.Prelude.{Ok}
use Rattle.sd_machine.specs.declared.event.Event.TheVariants.{Adopt}
use Rattle.sd_machine.specs.declared.reply.Reply.TheVariants.{Adopted, Refused}
use Rattle.sd_port.proofs.console.adopt.Goals as goal

pub returns-in-Refused : goal.returns-in-Refused
returns-in-Refused g c =
    (Adopt c.args.drive c.args.name ∷ [], Refused c.in-Refused.why ∷ [], inr (Refused c.in-Refused.why, (refl, refl, c.in-Refused.ensures), refl))

pub returns-in-Adopted : goal.returns-in-Adopted
returns-in-Adopted g c = (
  Adopt c.args.drive c.args.name ∷ [],
  Adopted c.in-Adopted.end c.in-Adopted.next ∷ [],
  inr (Adopted c.in-Adopted.end c.in-Adopted.next, (refl, refl, c.in-Adopted.ensures), ap Ok c.tell.ensures),
)

pub returns-in_default : goal.returns-in_default
returns-in_default g c = ([], [], inl (refl, (refl, refl, refl)))
