use Rattle.sd_text.specs.Says.{said_view}
use Rattle.sd_text.proofs.SaysLemmas.{says_then_nothing}
use Rattle.sd_files.proofs.reading.given_up.Goals as goal

pub returns-clause-says : goal.returns-clause-says
returns-clause-says g c = says_then_nothing _ (said_view g.W.Write.contents c.print_fault.new.out) _ _ c.print_fault.ensures c.flush.ensures
