use Rattle.sd_text.specs.Says.{said_view}
use Rattle.sd_text.proofs.SaysLemmas.{says_then_nothing}
use Rattle.sd_files.proofs.list_file.refused.Goals as goal

pub returns-clause-says : goal.returns-clause-says
returns-clause-says g c = says_then_nothing _ (said_view g.W.Write.contents c.line.new.self) _ _ c.line.ensures.says c.flush.ensures
