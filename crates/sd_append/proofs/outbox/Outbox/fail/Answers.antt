use Rattle.sd_append.proofs.OutLemmas.{puts_dropped}
use Rattle.sd_append.proofs.outbox.Outbox.fail.Goals as goal

pub returns : goal.returns
returns g c bytes = puts_dropped _ _ _ _ bytes
