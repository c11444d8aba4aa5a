use Rattle.std.proofs.Common.{arith}
use Rattle.sd_core.proofs.NewBays.{room_push}
use Rattle.sd_core.proofs.new_bays.+reserve_lanes.Goals as goal

pub returns-clause-reserved : goal.returns-clause-reserved
returns-clause-reserved g t c =
    room_push c.args.spools.now c.in-Some.front.now c.reserve_lanes.new.rooms.items c.push_reserved.new.self.items c.in-Some.stores.now c.in_ok-lanes.lanes
    c.in-Some.ensures.cases.0 c.push_reserved.ensures.items c.in_ok-reserve_lanes.ensures.reserved c.in_ok-lanes.ensures.items
    (omega (arith, c.in-Some.stores.now.ok.0, c.len.ensures, c.in_ok-lanes.ensures.capacity))
