use Rattle.sd_label.proofs.CuttingLemmas.{holds_begins, begins_holds}
use Rattle.sd_label.proofs.cutting.holding_begins_a_cutting.Goals as goal

pub returns-clause-begins : goal.returns-clause-begins
returns-clause-begins c = holds_begins

pub returns-clause-holds : goal.returns-clause-holds
returns-clause-holds c = begins_holds
