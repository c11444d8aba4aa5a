use Rattle.std.proofs.Common.{refl}
use Rattle.sd_gates.proofs.Last.{named_there}
use Rattle.sd_gates.proofs.telling.play.Goals as goal

pub play_with-requires-after_bounds : goal.play_with-requires-after_bounds
play_with-requires-after_bounds g c κs within = record { tables = named_there c.in_ok-all.all.items; times = λ no. refl }
