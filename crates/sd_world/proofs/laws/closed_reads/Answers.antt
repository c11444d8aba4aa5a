use Rattle.sd_world.proofs.ReadLemmas.{closed_reads}
use Rattle.sd_world.proofs.laws.closed_reads.Goals as goal

pub returns : goal.returns
returns g c = λ meaning w m key spans at bay d pairs closed h. closed_reads meaning w m key spans at bay d pairs closed h
