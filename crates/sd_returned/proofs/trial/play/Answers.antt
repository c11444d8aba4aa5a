use Rattle.std.proofs.Common.{refl}
use Rattle.sd_line.proofs.NumberLemmas.{one_named}
use Rattle.sd_returned.proofs.trial.play.Goals as goal

pub play_with-requires-after_bounds : goal.play_with-requires-after_bounds
play_with-requires-after_bounds g c κs within = (one_named c.in_ok-made.made, refl)
