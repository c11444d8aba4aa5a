use Rattle.sd_theorem.proofs.SayLemmas.{placements_say}
use Rattle.sd_theorem.proofs.scanned.placements_say.Goals as goal

pub returns : goal.returns
returns g c = λ meaning w m ticket e at bay d pairs there unfailed unpurged online honest. placements_say meaning w m ticket e at bay d pairs there unfailed unpurged online honest
