use Rattle.sd_readback.proofs.FirstFaultLemmas.{first_fault_one}
use Rattle.sd_readback.proofs.laws.one_first_fault.Goals as goal

pub returns : goal.returns
returns c = first_fault_one
