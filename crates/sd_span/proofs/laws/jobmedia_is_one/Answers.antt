use Rattle.sd_span.proofs.TextLemmas.{jobmedia_is_one}
use Rattle.sd_span.proofs.laws.jobmedia_is_one.Goals as goal

pub returns : goal.returns
returns c = jobmedia_is_one
