use Rattle.sd_theorem.proofs.SpanLemmas.{scan_tells_spans}
use Rattle.sd_theorem.proofs.scanned.scan_tells_spans.Goals as goal

pub returns : goal.returns
returns c = scan_tells_spans
