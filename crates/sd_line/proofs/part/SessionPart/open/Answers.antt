use Rattle.std.proofs.Common.{ℤ, w64, subst}
use Rattle.std.proofs.lemmas.Int.{to_z-of_z}
use Rattle.sd_line.specs.Parts.{OpensPart}
use Rattle.sd_line.proofs.OpenLemmas.{opens_part}
use Rattle.sd_line.proofs.part.SessionPart.open.Goals as goal

pub returns-in-Ok-clause-ok : goal.returns-in-Ok-clause-ok
returns-in-Ok-clause-ok g c =
    subst (λ (z : ℤ). OpensPart c.args.line.now c.args.id c.args.job c.args.pool z c.args.end c.begin.result) (to_z-of_z w64 c.args.moment c.ranges.moment)
    (opens_part _ _ _ _ _ _ _ _ c.in-Ok.ensures.ok c.begin.ensures)
