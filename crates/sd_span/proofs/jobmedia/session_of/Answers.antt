use Rattle.std.proofs.Common.{sym, ◌∙◌}
use Rattle.sd_span.proofs.ReadingLemmas.{session_told}
use Rattle.sd_span.proofs.jobmedia.session_of.Goals as goal

pub returns : goal.returns
returns c = session_told c.args.line.now c.known.new.self c.key_in.result (sym c.new-words.ensures ∙ c.in_ok-known.ensures) c.key_in.ensures
