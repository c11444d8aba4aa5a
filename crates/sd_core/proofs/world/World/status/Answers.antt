use Rattle.std.proofs.Common.{ap, arith}
use Rattle.sd_world.specs.World.{WorldView}
use Rattle.sd_events.proofs.Found.{found_within}
use Rattle.sd_core.proofs.Told.{status_read}
use Rattle.sd_core.proofs.world.World.status.Goals as goal

pub index-requires : goal.index-requires
index-requires g c = omega (arith, found_within c.args.ticket c.deref.result.now c.in_ok-at.at c.in_ok-at.ensures.found, c.deref.ensures.len)

pub returns : goal.returns
returns g c =
    status_read c.args.ticket c.deref.result.now c.self.inside.parts.sessions.items c.args.self.now.sessions c.in_ok-at.at _ c.index.result.now
    c.status.result c.in_ok-at.ensures.found c.deref.ensures.value (ap (λ (w : WorldView _). w.sessions) c.self.view_is) c.index.ensures c.behind-parts.view_is c.status.ensures
