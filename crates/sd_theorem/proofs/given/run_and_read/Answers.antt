use Rattle.sd_theorem.proofs.given.run_and_read.Goals as goal

pub returns : goal.returns
returns g c = c.run_and_read_over.ensures
