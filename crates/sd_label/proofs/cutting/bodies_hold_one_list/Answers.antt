use Rattle.sd_label.proofs.CuttingLemmas.{holds_one}
use Rattle.sd_label.proofs.cutting.bodies_hold_one_list.Goals as goal

pub returns : goal.returns
returns c = holds_one
