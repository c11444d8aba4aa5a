use Rattle.std.proofs.Common.{rules}
use Rattle.sd_lines.proofs.HeldLemmas.{opens, runs_not}
use Rattle.sd_lines.proofs.held.Held.open.Goals as goal

pub returns-in-Ok : goal.returns-in-Ok
returns-in-Ok g c =
    opens _ _ _ _ _ _ _ _ c.in-Ok.live (rw (← c.self.view_is) (runs_not c.self.inside.live c.self.inside.over c.in-None.is c.self.invariant.over)) (search rules) (search rules)
