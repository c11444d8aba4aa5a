use Rattle.sd_files.proofs.TextLemmas.{jobmedia-utf8}
use Rattle.sd_files.proofs.input.spans_in.Goals as goal

pub returns-in_default : goal.returns-in_default
returns-in_default c key spans is = c.in_default.ensures.cases.0 (jobmedia-utf8 c.args.bytes.now key spans is)
