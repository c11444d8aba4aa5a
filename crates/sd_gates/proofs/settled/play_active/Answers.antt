use Rattle.std.proofs.Common.{refl}
use Rattle.sd_gates.proofs.Last.{named_there}
use Rattle.sd_gates.proofs.settled.play_active.Goals as goal

pub settle_active-requires : goal.settle_active-requires
settle_active-requires g c = record { tables = named_there c.in_ok-all.all.items; times = λ no. refl }
