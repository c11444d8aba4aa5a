use Rattle.std.proofs.Common.{sym, ◌∙◌}
use Rattle.sd_span.proofs.ReadingLemmas.{span_told}
use Rattle.sd_span.proofs.jobmedia.span_of.Goals as goal

pub returns : goal.returns
returns c = span_told c.args.line.now c.known.new.self c.span_in.result (sym c.new-words.ensures ∙ c.in_ok-known.ensures) c.span_in.ensures
