use Rattle.sd_span.proofs.SpanLemmas.{stretches_grow}
use Rattle.sd_span.proofs.laws.stretches_grow.Goals as goal

pub returns : goal.returns
returns c = stretches_grow
