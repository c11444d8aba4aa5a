use Rattle.std.proofs.Common.{◌≡◌, List, sym, ap, ◌∙◌, subst}
use Rattle.std.specs.Prelude.{IfOk}
use Rattle.sd_world.specs.World.{WorldView, WorldSession, BayView}
use Rattle.sd_events.specs.View.{world_of}
use Rattle.sd_core.specs.Listing.{KeepLanes}
use Rattle.sd_core.specs.View.{running_tickets}
use Rattle.sd_core.proofs.Tickets.{keep_lanes}
use Rattle.sd_core.proofs.world.World.tickets.Goals as goal

pub list_running-requires-clause-keep : goal.list_running-requires-clause-keep
list_running-requires-clause-keep g c κs within =
    let w = world_of c.self.inside.parts in
    let bays = subst (λ (bs : List (BayView g.row.D.Denot)). KeepLanes w.sessions bs) (sym c.deref-2.ensures.value) (keep_lanes w c.self.invariant) in
    subst (λ (es : List WorldSession). KeepLanes es c.deref-2.result.now) (sym c.deref.ensures.value) bays

pub returns : goal.returns
returns g c =
    subst (λ (es : List WorldSession). IfOk c.list_running.result (λ tickets. tickets.items ≡ running_tickets es))
    (c.deref.ensures.value ∙ ap (λ (w : WorldView g.row.D.Denot). w.sessions) c.self.view_is) c.list_running.ensures
