use Rattle.sd_port.proofs.DeedLemmas.{over_played}
use Rattle.sd_port.proofs.port.WorldPort.round.Goals as goal

pub invariant_of-self : goal.invariant_of-self
invariant_of-self g c =
    over_played g.D.Driver.meaning (record { world = c.self.inside.world; moment = c.self.inside.moment; rounds = c.self.inside.rounds; opening = c.self.inside.opening.value; asked = c.self.inside.exchanges }) c.play.result c.play.new.world c.self.invariant c.play.ensures.plays c.play.ensures.err
