use Rattle.std.proofs.Common.{refl}
use Rattle.sd_gates.proofs.Last.{named_there}
use Rattle.sd_gates.proofs.settled.play_mistake.Goals as goal

pub err_twice-requires-after_bounds : goal.err_twice-requires-after_bounds
err_twice-requires-after_bounds g c κs within = record { tables = named_there c.in_ok-all.all.items; times = λ no. refl }
