use Rattle.sd_world.proofs.PurgedByCause.{purged_by_cause}
use Rattle.sd_world.proofs.laws.moves_purge_by_cause.Goals as goal

pub returns : goal.returns
returns g c = λ meaning old new event reply h m. purged_by_cause meaning old new event reply h m
