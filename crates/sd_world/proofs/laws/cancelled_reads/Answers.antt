use Rattle.sd_world.proofs.ReadLemmas.{cancelled_reads}
use Rattle.sd_world.proofs.laws.cancelled_reads.Goals as goal

pub returns : goal.returns
returns g c = λ meaning w m key at bay d ps more rules pairs cancelled h split some. cancelled_reads meaning w m key at bay d ps more rules pairs cancelled h split some
