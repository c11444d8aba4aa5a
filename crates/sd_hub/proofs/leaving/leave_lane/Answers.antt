use Rattle.std.proofs.Common.{◌≡◌, sym, ap, subst, ◌∙◌, arith, length}
use Rattle.sd_hub.specs.Settles.{SettledLaneIs}
use Rattle.sd_hub.specs.Tickets.{HaveTickets}
use Rattle.sd_hub.proofs.leaving.leave_lane.Goals as goal

pub last_ticket-holder-requires-after_bounds : goal.last_ticket-holder-requires-after_bounds
last_ticket-holder-requires-after_bounds g c κs within =
    let same : c.deref.result.now ≡ c.args.lane.sessions = c.deref.ensures.value ∙ ap (λ (l : SettledLaneIs). l.sessions) c.lane.view_is in
    subst HaveTickets (sym same) c.requires.tickets

pub unwrap-requires : goal.unwrap-requires
unwrap-requires g c =
    let long = ap (λ (l : SettledLaneIs). length l.sessions) c.lane.view_is in
    let ok = c.lane.inside.sessions.ok.0 in
    let room = c.requires.room in
    c.append.ensures.succeeds (omega (arith, long, ok, room))
