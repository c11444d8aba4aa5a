use Rattle.sd_world.proofs.Moves.{moves_keep_rules}
use Rattle.sd_world.proofs.laws.moves_keep_rules.Goals as goal

pub returns : goal.returns
returns g c = λ meaning old new event reply h m. moves_keep_rules meaning old new event reply h m
