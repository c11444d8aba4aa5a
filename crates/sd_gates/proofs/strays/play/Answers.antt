use Rattle.std.proofs.Common.{refl}
use Rattle.sd_gates.proofs.Last.{named_there}
use Rattle.sd_gates.proofs.strays.play.Goals as goal

pub play_with-requires : goal.play_with-requires
play_with-requires g c = record { tables = named_there c.in_ok-all.all.items; times = λ no. refl }
