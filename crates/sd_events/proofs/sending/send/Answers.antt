use Rattle.std.proofs.Common.{ap}
use Rattle.sd_lane.specs.Queue.{LanesView}
use Rattle.sd_events.proofs.Seats.{sends}
use Rattle.sd_events.proofs.sending.send.Goals as goal

pub despool_step-requires-clause-opens : goal.despool_step-requires-clause-opens
despool_step-requires-clause-opens g c = λ κs known. g.met.Q.Lanes.open c.args.queue.now c.args.session.now.lane c.requires.least c.requires.most

pub returns-clause-ok : goal.returns-clause-ok
returns-clause-ok g c =
    let view : g.row.Q.Denot → LanesView = λ q. record { lanes = g.Q.Lane.lanes q; capacity = g.Q.Lane.capacity q; held = g.Q.Lane.held q } in
    let did = c.despool_step.ensures in
    sends c.despool_step.result c.args.session.now c.despool_step.new.self
    (g.Q.Lane.sent c.args.queue.now) (g.Q.Lane.sent c.despool_step.new.lane)
    (g.Q.Lane.alone c.args.queue.now) (g.Q.Lane.alone c.despool_step.new.lane)
    (view c.args.queue.now) (view c.despool_step.new.lane)
    did.ok (g.met.Q.Lanes.single c.args.queue.now) (g.met.Q.Lanes.single c.despool_step.new.lane)
    did.lanes did.capacity (λ e. ap view (did.nothing e)) (λ e. ap view (did.not_due e))
