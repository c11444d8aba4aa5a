use Rattle.std.proofs.Common.{subst, ◌∙◌}
use Rattle.sd_core.specs.Rounds.{AreSends, PlaysOn}
use Rattle.sd_core.proofs.RoundParts.{round_of}
use Rattle.sd_core.proofs.rounds.round.Goals as goal

pub returns-clause-plays : goal.returns-clause-plays
returns-clause-plays g c =
    let M = g.D.Driver.meaning in
    let old = c.args.world.now in
    let sent = subst (λ ts. PlaysOn M (AreSends ts) old c.send_all-sent.result c.send_all-sent.new.world) (c.deref.ensures.value ∙ c.in_ok-tickets.ensures) c.send_all-sent.ensures in
    round_of M old c.send_all-sent.new.world c.turn_all.new.world c.send_all-sent.result c.turn_all.result c.and.result
    sent c.turn_all.ensures c.and.ensures.moved c.and.ensures.placed
