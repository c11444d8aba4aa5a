use Rattle.std.proofs.Common.{refl}
use Rattle.sd_gates.proofs.Last.{named_there}
use Rattle.sd_gates.proofs.settled.play_all.Goals as goal

pub count_read-requires-after_bounds : goal.count_read-requires-after_bounds
count_read-requires-after_bounds g c κs within = record { tables = named_there c.in_ok-all.all.items; times = λ no. refl }
