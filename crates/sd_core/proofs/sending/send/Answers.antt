use Rattle.std.proofs.Common.{[], ◌∷◌}
use Rattle.sd_machine.specs.declared.event.Event.TheVariants.{Spool, Despool}
use Rattle.sd_core.specs.Rounds.{AreSends}
use Rattle.sd_core.proofs.Played.{Are, on_step, on_and}
use Rattle.sd_core.proofs.sending.send.Goals as goal

pub returns : goal.returns
returns g c =
    let M = g.D.Driver.meaning in
    let t = c.args.ticket in
    let spooled = on_step M _ _ (Spool t) _ c.of.result c.step-spooled.ensures c.of.ensures in
    let sent = on_step M _ _ (Despool t) _ c.of-2.result c.step-sent.ensures c.of-2.ensures in
    on_and M (Are (Spool t ∷ []) (c.step-spooled.result ∷ [])) (Are (Despool t ∷ []) (c.step-sent.result ∷ [])) (AreSends (t ∷ [])) _ _ _ _ _ _
    spooled sent c.and.ensures.moved c.and.ensures.placed (λ es fs rs ss p q. rw (p.0, q.0))
