use Rattle.std.proofs.Common.{ap, ◌∙◌, arith, length}
use Rattle.std.proofs.lemmas.Iterator.Adapters.{YieldsList-from_vec}
use Rattle.std.proofs.lemmas.Iterator.Consumers.{YieldsList-so_far, YieldsList-turn}
use Rattle.std.proofs.lemmas.List.{length-map}
use Rattle.sd_hub.specs.Worlds.{lane_view}
use Rattle.sd_hub.proofs.Leaves.{fits, slots_more, stands, told_more}
use Rattle.sd_hub.proofs.leaving.leave_lanes.Goals as goal

pub leave_lane-requires-clause-tickets : goal.leave_lane-requires-clause-tickets
leave_lane-requires-clause-tickets g c κs within =
    let all = c.args.lanes.items in
    let from = c.into_iter-lane-iterator.ensures.into_iter_gives in
    let turn = YieldsList-turn (YieldsList-from_vec {s = c.into_iter-lane-iterator.result} all from.0 (from.1 ∙ c.args.lanes.ok.0)) c.loop-lane.yielded c.loop-lane.lane-iterator c.loop-lane.yielded_by
    _ c.next.new.self c.in-Some.lane c.in-Some.is c.next.ensures.steps in
    c.requires.tickets (length c.loop-lane.yielded) c.in-Some.lane (stands all c.loop-lane.yielded c.in-Some.lane turn)

pub leave_lane-requires-clause-room : goal.leave_lane-requires-clause-room
leave_lane-requires-clause-room g c κs within =
    let all = c.args.lanes.items in
    let from = c.into_iter-lane-iterator.ensures.into_iter_gives in
    let road = YieldsList-from_vec {s = c.into_iter-lane-iterator.result} all from.0 (from.1 ∙ c.args.lanes.ok.0) in
    let turn = YieldsList-turn road c.loop-lane.yielded c.loop-lane.lane-iterator c.loop-lane.yielded_by _ c.next.new.self c.in-Some.lane c.in-Some.is c.next.ensures.steps in
    let far = YieldsList-so_far road c.loop-lane.yielded c.loop-lane.lane-iterator c.loop-lane.yielded_by in
    let fit = fits all c.loop-lane.yielded c.in-Some.lane turn far in
    let ok = c.loop-lane.told.ok.0 in
    let many = ap length c.loop-lane.invariant.told in
    let room = c.loop-lane.invariant.told_room in
    omega (arith, fit, ok, many, room)

pub push_reserved-requires : goal.push_reserved-requires
push_reserved-requires g c =
    let all = c.args.lanes.items in
    let from = c.into_iter-lane-iterator.ensures.into_iter_gives in
    let turn = YieldsList-turn (YieldsList-from_vec {s = c.into_iter-lane-iterator.result} all from.0 (from.1 ∙ c.args.lanes.ok.0)) c.loop-lane.yielded c.loop-lane.lane-iterator c.loop-lane.yielded_by
    _ c.next.new.self c.in-Some.lane c.in-Some.is c.next.ensures.steps in
    let less = turn.0 in
    let many = ap length c.loop-lane.invariant.slots ∙ length-map c.loop-lane.yielded lane_view in
    let ok = c.loop-lane.slots.ok.0 in
    let room = c.loop-lane.invariant.slots_room in
    omega (arith, less, many, ok, room)

pub loop-lane-preserved : goal.loop-lane-preserved
loop-lane-preserved g c =
    let l = c.in-Some.lane in
    let ls = c.loop-lane.yielded in
    let grows = c.leave_lane.ensures.capacity in
    let keeps = c.push_reserved.ensures.capacity in
    let told_room = c.loop-lane.invariant.told_room in
    let slots_room = c.loop-lane.invariant.slots_room in
    record {
      told = told_more ls l c.loop-lane.told.items c.leave_lane.new.told.items c.loop-lane.invariant.told c.leave_lane.ensures.told;
      slots = slots_more ls l c.loop-lane.slots.items c.push_reserved.new.self.items c.leave_lane.result c.loop-lane.invariant.slots c.push_reserved.ensures.items c.leave_lane.ensures.slot;
      told_room = omega (arith, grows, told_room);
      slots_room = omega (arith, keeps, slots_room);
    }
