use Rattle.sd_returned.proofs.SettledLemmas.{settled_jobs_read}
use Rattle.sd_returned.proofs.laws.settled_jobs_read.Goals as goal

pub returns : goal.returns
returns g c = settled_jobs_read
