use Rattle.sd_readback.proofs.ReadingLemmas.{kept_read}
use Rattle.sd_readback.proofs.laws.kept_spans_read.Goals as goal

pub returns : goal.returns
returns c = kept_read
