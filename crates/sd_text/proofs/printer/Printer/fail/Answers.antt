use Rattle.sd_text.proofs.SaysLemmas.{says_dropped, cuts_dropped}
use Rattle.sd_text.proofs.printer.Printer.fail.Goals as goal

pub returns-clause-says : goal.returns-clause-says
returns-clause-says g c bytes = says_dropped _ _ bytes

pub returns-clause-cut : goal.returns-clause-cut
returns-clause-cut g c bytes some_there = cuts_dropped _ _ bytes some_there
