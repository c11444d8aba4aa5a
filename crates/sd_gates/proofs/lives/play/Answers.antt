use Rattle.std.proofs.Common.{refl}
use Rattle.sd_line.proofs.NumberLemmas.{one_named}
use Rattle.sd_gates.proofs.lives.play.Goals as goal

pub live-requires : goal.live-requires
live-requires g c = (one_named c.in_ok-made.made, refl)
