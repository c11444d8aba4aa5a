use Rattle.std.proofs.Common.{subst, arith}
use Rattle.std.proofs.lemmas.Option.{slice_get_within}
use Rattle.sd_world.specs.World.{LaneView}
use Rattle.sd_core.specs.Listing.{ListsHolder}
use Rattle.sd_core.proofs.Tickets.{lists_next}
use Rattle.sd_core.proofs.listing.list_lanes.Goals as goal

pub loop-lane-init : goal.loop-lane-init
loop-lane-init g c = record {
  running = c.requires.running;
  stay = λ t there. there;
  lists = λ place lane below there. absurd (omega (arith, below));
}

pub loop-lane-preserved : goal.loop-lane-preserved
loop-lane-preserved g c =
    let i = c.loop-lane.invariant in
    let e = c.in_ok-list_holder.ensures in
    let ts' = c.list_holder.new.tickets.items in
    let here = subst (λ (l : LaneView). ListsHolder c.args.sessions.now l.holder ts') c.lane.view_is e.lists in
    record {
      running = e.running;
      stay = λ t there. e.stay t (i.stay t there);
      lists = lists_next c.args.sessions.now c.args.lanes.now c.loop-lane.lane-index c.lane-item.result c.loop-lane.tickets.items ts'
          i.lists e.stay c.lane-item.is here;
    }

pub returns : goal.returns
returns g c =
    let i = c.loop-lane.invariant in
    record {
      running = i.running;
      stay = i.stay;
      lists = λ place lane there. i.lists place lane (let within = slice_get_within c.args.lanes.now place lane there in omega (arith, within, c.loop-lane-test.false)) there;
    }
