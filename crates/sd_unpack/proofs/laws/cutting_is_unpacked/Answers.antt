use Rattle.sd_unpack.proofs.BodyLemmas.{cutting_unpacked}
use Rattle.sd_unpack.proofs.laws.cutting_is_unpacked.Goals as goal

pub returns : goal.returns
returns c = cutting_unpacked
