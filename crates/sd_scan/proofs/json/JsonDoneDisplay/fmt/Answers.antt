use Rattle.std.proofs.Common.{codes}
use Rattle.std.specs.Fmt.{decimal}
use Rattle.std.proofs.Output.{has_written_of_eq}
use Rattle.sd_scan.proofs.JsonLemmas.{five_said}
use Rattle.sd_scan.proofs.json.JsonDoneDisplay.fmt.Goals as goal

pub returns-clause-writes : goal.returns-clause-writes
returns-clause-writes g c = λ plain ok.
    has_written_of_eq _ _ _ _ _
    (five_said (codes "{\"line\":\"done\",\"volumes\":") (decimal c.args.self.now.0) (codes ",\"sessions\":") (decimal c.args.self.now.1) (codes "}"))
    (c.write.ensures.writes plain ok)
