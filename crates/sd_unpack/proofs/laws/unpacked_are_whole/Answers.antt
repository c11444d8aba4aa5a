use Rattle.sd_unpack.proofs.BodyLemmas.{unpacked_whole}
use Rattle.sd_unpack.proofs.laws.unpacked_are_whole.Goals as goal

pub returns : goal.returns
returns c = unpacked_whole
