use Rattle.sd_span.proofs.JobMediaLemmas.{jobmedia_texts_apart}
use Rattle.sd_span.proofs.laws.jobmedia_texts_apart.Goals as goal

pub returns : goal.returns
returns c = jobmedia_texts_apart
