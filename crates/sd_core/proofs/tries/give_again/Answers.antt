use Rattle.sd_core.specs.Again.{event_again}
use Rattle.sd_core.proofs.TryLemmas.{answered, lacked_memory}
use Rattle.sd_core.proofs.tries.give_again.Goals as goal

pub returns-in-Ok : goal.returns-in-Ok
returns-in-Ok g c =
    answered g.D.Driver.meaning (event_again c.args.event.now) c.in-Ok.answer c.args.world.now c.repeat.new.world _ c.args.rounds c.in-Ok.ensures.stops

pub returns-in-Err : goal.returns-in-Err
returns-in-Err g c =
    lacked_memory g.D.Driver.meaning (event_again c.args.event.now) c.args.world.now c.repeat.new.world c.args.rounds c.in-Err.ensures.err
