use Rattle.sd_line.proofs.side.DriveSide.into_parts.Goals as goal

pub returns-clause-keeps : goal.returns-clause-keeps
returns-clause-keeps g c = rw (← c.self.view_is) c.self.invariant.keeps
