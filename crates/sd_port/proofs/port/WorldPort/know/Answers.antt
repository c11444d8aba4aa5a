use Rattle.sd_port.proofs.port.WorldPort.know.Goals as goal

pub returns : goal.returns
returns g c = rw (← c.self.view_is) c.self.invariant
