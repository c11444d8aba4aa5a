use Rattle.std.proofs.Common.{refl}
use Rattle.sd_core.proofs.Played.{on_none}
use Rattle.sd_core.proofs.RoundParts.{sent_more}
use Rattle.sd_core.proofs.sending.send_all.Goals as goal

pub loop-ticket-init : goal.loop-ticket-init
loop-ticket-init g c = on_none g.D.Driver.meaning _ _ _ c.new-sent.ensures refl

pub loop-ticket-preserved : goal.loop-ticket-preserved
loop-ticket-preserved g c =
    sent_more g.D.Driver.meaning _ _ _ c.args.tickets.now c.loop-ticket.ticket-index c.ticket-item.result c.loop-ticket.sent c.send.result c.and-sent.result
    c.ticket-item.is c.loop-ticket-test.true c.loop-ticket.invariant c.send.ensures c.and-sent.ensures.moved c.and-sent.ensures.placed
