use Rattle.sd_label.proofs.CuttingLemmas.{holds_front}
use Rattle.sd_label.proofs.cutting.front_holds_front.Goals as goal

pub returns : goal.returns
returns c = holds_front
