use Rattle.sd_readback.proofs.FaultLemmas.{fault_no_reading}
use Rattle.sd_readback.proofs.laws.fault_is_no_reading.Goals as goal

pub returns : goal.returns
returns c = fault_no_reading
