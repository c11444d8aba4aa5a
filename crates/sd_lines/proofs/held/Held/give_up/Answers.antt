use Rattle.sd_lines.proofs.HeldLemmas.{gives_up_live}
use Rattle.sd_lines.proofs.held.Held.give_up.Goals as goal

pub returns : goal.returns
returns g c = rw (← c.self.view_is) (gives_up_live c.self.inside.live c.self.inside.over c.in-Some.live c.end_now.result c.in-Some.is c.end_now.ensures)
