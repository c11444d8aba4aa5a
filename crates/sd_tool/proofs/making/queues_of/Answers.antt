use Rattle.std.proofs.Common.{◌≡◌, ap}
use Rattle.sd_core.specs.Conf.{empty_queue}
use Rattle.sd_tool.proofs.MakingLemmas.{is_empty_queue, zip_more}
use Rattle.sd_tool.proofs.making.queues_of.Goals as goal

pub loop-drive-preserved : goal.loop-drive-preserved
loop-drive-preserved g c =
    zip_more (λ d q. record { lanes = g.Q.Lane.lanes q; capacity = g.Q.Lane.capacity q; held = g.Q.Lane.held q } ≡ empty_queue d.1 c.args.room) c.args.drives.now c.loop-drive.drive-index c.drive-item.result c.loop-drive.queues.items c.push.new.self.items c.in_ok-like.field-0
    c.drive-item.is c.loop-drive-test.true c.in_ok-push.ensures.items c.loop-drive.invariant (is_empty_queue _ _ _ _ _ c.in_ok-like.ensures.lanes c.in_ok-like.ensures.capacity c.in_ok-like.ensures.held)
