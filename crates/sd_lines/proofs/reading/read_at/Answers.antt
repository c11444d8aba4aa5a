use Rattle.std.proofs.Common.{inl, inr, refl}
use Rattle.sd_lines.proofs.reading.read_at.Goals as goal

pub returns-in-Some : goal.returns-in-Some
returns-in-Some g c = inr (inr (c.read.ensures.0, c.read.ensures.1, c.read.ensures.2, refl))
