use Rattle.std.proofs.Common.{ap, arith}
use Rattle.std.proofs.lemmas.Result.{err_from_is_err_and}
use Rattle.sd_lane.specs.Queue.{LanesView}
use Rattle.sd_session.specs.declared.answer.Despooled.TheVariants.{Sent, LaneFull, Nothing, NotDue}
use Rattle.sd_world.specs.World.{BayView}
use Rattle.sd_events.proofs.Found.{found_within}
use Rattle.sd_events.specs.View.{world_of}
use Rattle.sd_events.proofs.Seats.{sits_within, seated, lane_within, despools_one, despool_refused}
use Rattle.sd_events.proofs.sending.despool.Goals as goal

pub index_mut-entry-requires : goal.index_mut-entry-requires
index_mut-entry-requires g c = omega (arith, found_within _ _ _ c.in_ok-at.ensures.ok, c.deref.ensures.len)

pub index_mut-bay-requires : goal.index_mut-bay-requires
index_mut-bay-requires g c =
    let within = sits_within (world_of c.args.parts.now) c.args.ticket _ _ _ _ _ c.requires.world c.in_ok-at.ensures.ok c.deref.ensures.value c.index_mut-entry.ensures.value c.entry.view_is c.index_of-place.ensures in
    omega (arith, within, c.args.parts.now.bays.ok.0)

pub send-requires-clause-least : goal.send-requires-clause-least
send-requires-clause-least g c =
    let s = seated (world_of c.args.parts.now) c.args.ticket _ _ _ _ _ _ _ c.requires.world c.in_ok-at.ensures.ok c.deref.ensures.value c.index_mut-entry.ensures.value c.entry.view_is c.index_of-place.ensures c.index_mut-bay.ensures.value c.bay.view_is in
    λ κs known. (lane_within s).0

pub send-requires-clause-most : goal.send-requires-clause-most
send-requires-clause-most g c =
    let s = seated (world_of c.args.parts.now) c.args.ticket _ _ _ _ _ _ _ c.requires.world c.in_ok-at.ensures.ok c.deref.ensures.value c.index_mut-entry.ensures.value c.entry.view_is c.index_of-place.ensures c.index_mut-bay.ensures.value c.bay.view_is in
    λ κs known. (lane_within s).1

pub returns-in-Sent : goal.returns-in-Sent
returns-in-Sent g c =
    let s = seated (world_of c.args.parts.now) c.args.ticket _ _ _ _ _ _ _ c.requires.world c.in_ok-at.ensures.ok c.deref.ensures.value c.index_mut-entry.ensures.value c.entry.view_is c.index_of-place.ensures c.index_mut-bay.ensures.value c.bay.view_is in
    let after : LanesView = record { lanes = g.Q.Lane.lanes c.send.new.queue; capacity = g.Q.Lane.capacity c.send.new.queue; held = g.Q.Lane.held c.send.new.queue } in
    record { moves = despools_one Sent c.in_ok-send.field-0 c.send.new.session after s c.in-Sent.is c.in_ok-send.ensures.ok }

pub returns-in-LaneFull : goal.returns-in-LaneFull
returns-in-LaneFull g c =
    let s = seated (world_of c.args.parts.now) c.args.ticket _ _ _ _ _ _ _ c.requires.world c.in_ok-at.ensures.ok c.deref.ensures.value c.index_mut-entry.ensures.value c.entry.view_is c.index_of-place.ensures c.index_mut-bay.ensures.value c.bay.view_is in
    let after : LanesView = record { lanes = g.Q.Lane.lanes c.send.new.queue; capacity = g.Q.Lane.capacity c.send.new.queue; held = g.Q.Lane.held c.send.new.queue } in
    record { moves = despools_one LaneFull c.in_ok-send.field-0 c.send.new.session after s c.in-LaneFull.is c.in_ok-send.ensures.ok }

pub returns-in-Nothing : goal.returns-in-Nothing
returns-in-Nothing g c =
    let s = seated (world_of c.args.parts.now) c.args.ticket _ _ _ _ _ _ _ c.requires.world c.in_ok-at.ensures.ok c.deref.ensures.value c.index_mut-entry.ensures.value c.entry.view_is c.index_of-place.ensures c.index_mut-bay.ensures.value c.bay.view_is in
    let after : LanesView = record { lanes = g.Q.Lane.lanes c.send.new.queue; capacity = g.Q.Lane.capacity c.send.new.queue; held = g.Q.Lane.held c.send.new.queue } in
    record { moves = despools_one Nothing c.in_ok-send.field-0 c.send.new.session after s c.in-Nothing.is c.in_ok-send.ensures.ok }

pub returns-in-NotDue : goal.returns-in-NotDue
returns-in-NotDue g c =
    let s = seated (world_of c.args.parts.now) c.args.ticket _ _ _ _ _ _ _ c.requires.world c.in_ok-at.ensures.ok c.deref.ensures.value c.index_mut-entry.ensures.value c.entry.view_is c.index_of-place.ensures c.index_mut-bay.ensures.value c.bay.view_is in
    let after : LanesView = record { lanes = g.Q.Lane.lanes c.send.new.queue; capacity = g.Q.Lane.capacity c.send.new.queue; held = g.Q.Lane.held c.send.new.queue } in
    record { moves = despools_one NotDue c.in_ok-send.field-0 c.send.new.session after s c.in-NotDue.is c.in_ok-send.ensures.ok }

pub returns-in_err-send : goal.returns-in_err-send
returns-in_err-send g c =
    let s = seated (world_of c.args.parts.now) c.args.ticket _ _ _ _ _ _ _ c.requires.world c.in_ok-at.ensures.ok c.deref.ensures.value c.index_mut-entry.ensures.value c.entry.view_is c.index_of-place.ensures c.index_mut-bay.ensures.value c.bay.view_is in
    let view : g.row.Q.Denot → BayView _ = λ q. record { media = c.bay.inside.media; drive = c.bay.inside.drive; lanes = c.bay.inside.lanes.items; queue = record { lanes = g.Q.Lane.lanes q; capacity = g.Q.Lane.capacity q; held = g.Q.Lane.held q } } in
    let why = c.in_err-send.field-0.0 in
    record {
      moves = (let p = err_from_is_err_and c.from_residual-in_err-send.result c.from_residual-in_err-send.ensures.1 in rw (p.1, p.2)
          (despool_refused c.send.new.session (view c.send.new.queue) why s (ap view c.in_err-send.ensures.refused) c.in_err-send.ensures.err));
    }
