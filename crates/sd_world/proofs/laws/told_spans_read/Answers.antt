use Rattle.sd_world.proofs.ReadLemmas.{told_spans_read}
use Rattle.sd_world.proofs.laws.told_spans_read.Goals as goal

pub returns : goal.returns
returns g c = λ meaning old w m e spans at bay d there told some seats grew rules pairs cancelled h. told_spans_read meaning old w m e spans at bay d there told some seats grew rules pairs cancelled h
