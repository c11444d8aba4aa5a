use Rattle.sd_world.proofs.SeatLemmas.{moves_keep_seats}
use Rattle.sd_world.proofs.laws.moves_keep_seats.Goals as goal

pub returns : goal.returns
returns g c = λ meaning old new event reply h m. moves_keep_seats meaning old new event reply h m
