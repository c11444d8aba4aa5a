use Rattle.sd_driver.proofs.Lasting.{stop_leaves}
use Rattle.sd_driver.proofs.laws.stop_leaves_what_lasted.Goals as goal

pub returns : goal.returns
returns c = record {
  leaves = stop_leaves;
  later = λ since old new left still after name bytes lasts. after name bytes (still since name bytes lasts);
}
