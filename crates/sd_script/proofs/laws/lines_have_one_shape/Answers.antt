use Rattle.sd_script.proofs.LineLemmas.{shapes_are_one}
use Rattle.sd_script.proofs.laws.lines_have_one_shape.Goals as goal

pub returns : goal.returns
returns c = shapes_are_one
