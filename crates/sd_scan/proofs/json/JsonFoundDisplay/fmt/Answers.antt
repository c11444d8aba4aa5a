use Rattle.std.proofs.Common.{codes}
use Rattle.std.specs.Fmt.{decimal}
use Rattle.std.proofs.Output.{has_written_of_eq}
use Rattle.sd_scan.specs.Json.{end_json, size_json, start_json}
use Rattle.sd_scan.proofs.JsonLemmas.{eleven_said}
use Rattle.sd_scan.proofs.json.JsonFoundDisplay.fmt.Goals as goal

pub returns-clause-writes : goal.returns-clause-writes
returns-clause-writes g c = λ plain ok.
    let f = c.args.self.now.0.now in
    has_written_of_eq _ _ _ _ _
    (eleven_said (codes "{\"line\":\"session\",\"time\":") (decimal f.key.time) (codes ",\"id\":") (decimal f.key.id) (codes ",") (start_json f.start) (codes ",") (end_json f) (codes ",") (size_json f) (codes "}"))
    (c.write.ensures.writes plain ok)
