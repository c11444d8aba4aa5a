use Rattle.sd_append.proofs.OutLemmas.{puts_dropped}
use Rattle.sd_append.proofs.outbox.Outbox.keep.Goals as goal

pub returns-in_default : goal.returns-in_default
returns-in_default g c = puts_dropped _ _ _ _ _
