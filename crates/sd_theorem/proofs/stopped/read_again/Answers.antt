use Rattle.sd_theorem.proofs.stopped.read_again.Goals as goal

pub returns : goal.returns
returns g c = λ start w was left since runs adopted later none. c.read_again_over.ensures start w was left since runs adopted later none
