use Rattle.std.proofs.Common.{ap, ◌∙◌, arith}
use Rattle.sd_world.specs.World.{lane_is_free, LaneView}
use Rattle.sd_events.proofs.Frees.{frees_more}
use Rattle.sd_events.proofs.lanes.free_lanes.Goals as goal

pub loop-slot-preserved : goal.loop-slot-preserved
loop-slot-preserved g c =
    let es = c.args.sessions.now in
    let journal = c.args.drive.now.journal in
    let lane = c.slot-item.result in
    let is = c.is_free.ensures ∙ ap (λ (l : LaneView). lane_is_free es journal l.holder) c.slot.view_is in
    record {
      told = frees_more es journal c.args.lanes.now c.loop-slot.slot-index lane c.is_free.result c.loop-slot.free.items c.push.new.self.items
          c.loop-slot.invariant.told c.slot-item.is c.loop-slot-test.true is c.push.ensures.items;
      count = omega (arith, c.push.ensures.len, c.loop-slot.invariant.count);
    }
