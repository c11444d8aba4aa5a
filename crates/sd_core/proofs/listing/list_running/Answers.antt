use Rattle.std.proofs.Common.{List, ℕ, sym, ap, ◌∙◌, subst, arith}
use Rattle.std.proofs.lemmas.Option.{slice_get_within}
use Rattle.sd_world.specs.World.{LaneView, BayView}
use Rattle.sd_core.specs.Listing.{AreRunning, ListsLanes}
use Rattle.sd_core.proofs.Tickets.{bays_next, all_running}
use Rattle.sd_core.proofs.listing.list_running.Goals as goal

pub loop-bay-init : goal.loop-bay-init
loop-bay-init g c = record {
  running = subst (λ (ts : List ℕ). AreRunning c.args.sessions.now ts) (sym c.new-tickets.ensures.items) (record { rise = tt; go_on = λ t there. absurd there });
  lists = λ at bay below there. absurd (omega (arith, below));
}

pub loop-bay-preserved : goal.loop-bay-preserved
loop-bay-preserved g c =
    let i = c.loop-bay.invariant in
    let e = c.in_ok-list_lanes.ensures in
    let es = c.args.sessions.now in
    let ts' = c.list_lanes.new.tickets.items in
    let here = subst (λ (l : List LaneView). ListsLanes es l ts') (c.deref.ensures.value ∙ ap (λ (b : BayView _). b.lanes) c.bay.view_is) e.lists in
    record {
      running = e.running;
      lists = bays_next es c.args.bays.now c.loop-bay.bay-index c.bay-item.result c.loop-bay.tickets.items ts' i.lists e.stay c.bay-item.is here;
    }

pub returns : goal.returns
returns g c =
    let i = c.loop-bay.invariant in
    all_running c.requires.rise.0 c.requires.rise.1 c.args.sessions.now c.loop-bay.tickets.items c.requires.rise.2 i.running
    (λ t goes.
    (let k = c.requires.keep t goes in
    let within = slice_get_within c.args.bays.now k.0 k.1 k.4 in
    i.lists k.0 k.1 (omega (arith, within, c.loop-bay-test.false)) k.4 k.2 k.3 k.5 t k.6 goes))
