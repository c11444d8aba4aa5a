use Rattle.sd_conf.proofs.OneLemmas.{first_fault_one}
use Rattle.sd_conf.proofs.laws.first_fault_is_one.Goals as goal

pub returns : goal.returns
returns c = first_fault_one
