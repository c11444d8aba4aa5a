use Rattle.sd_ruled.proofs.Views.{ref_sends, ref_full}
use Rattle.sd_ruled.proofs.lane_ref.LaneRefLane.try_push.Goals as goal

pub returns-clause-sent : goal.returns-clause-sent
returns-clause-sent g c = ref_sends _ _ c.args.self.now.seat.now _ _ c.requires c.push.ensures.ok

pub returns-clause-was_full : goal.returns-clause-was_full
returns-clause-was_full g c = ref_full _ _ _ c.args.self.now.seat.now c.requires c.push.ensures.was_full
