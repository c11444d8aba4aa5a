use Rattle.std.proofs.Common.{◌∷◌, [], refl}
use Rattle.sd_machine.specs.declared.event.Event.TheVariants.{Media}
use Rattle.sd_port.proofs.console.tell_spans.Goals as goal

pub returns : goal.returns
returns g c = (
  Media c.args.ticket ∷ [],
  c.step-reply.result ∷ [],
  (c.step-reply.result, (refl, refl, c.step-reply.ensures), rw (← c.time.ensures, ← c.get.ensures.value) c.tell.ensures),
)
