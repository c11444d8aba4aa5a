use Rattle.std.proofs.Common.{ap}
use Rattle.sd_port.specs.Port.{PortView}
use Rattle.sd_tool.proofs.draining.drained.Goals as goal

pub returns-clause-drains : goal.returns-clause-drains
returns-clause-drains g c =
    let begins = ap (λ (p : PortView g.row.D.Denot). p.world) c.new-port.ensures in
    rw (c.into_world.ensures, ← begins) c.play_rounds-placed.ensures.drains

pub returns-clause-err : goal.returns-clause-err
returns-clause-err g c =
    let begins = ap (λ (p : PortView g.row.D.Denot). p.world) c.new-port.ensures in
    rw (c.into_world.ensures, ← begins) c.play_rounds-placed.ensures.err
