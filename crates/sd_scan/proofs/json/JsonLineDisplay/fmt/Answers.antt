use Rattle.std.proofs.Common.{◌++◌, ◌∙◌, ap, sym, codes, List, ℕ}
use Rattle.std.specs.Fmt.{decimal}
use Rattle.std.proofs.Output.{has_written_of_eq}
use Rattle.sd_scan.specs.Json.{json_text}
use Rattle.sd_scan.proofs.JsonLemmas.{five_said}
use Rattle.sd_scan.proofs.json.JsonLineDisplay.fmt.Goals as goal

pub returns-in-Misnoted-clause-writes : goal.returns-in-Misnoted-clause-writes
returns-in-Misnoted-clause-writes g c = λ plain ok.
    let place = decimal c.in-Misnoted.at in
    has_written_of_eq _ _ _ _ _
    (five_said (codes "{\"line\":\"damage\",\"volume\":\"") c.as_str-in-Misnoted.result.now (codes "\",\"place\":") place (codes ",\"kind\":\"note\"}")
    ∙ ap (λ (name : List ℕ). codes "{\"line\":\"damage\",\"volume\":\"" ++ name ++ codes "\",\"place\":" ++ place ++ codes ",\"kind\":\"note\"}") c.as_str-in-Misnoted.ensures.spelled
    ∙ ap json_text (sym c.in-Misnoted.is))
    (c.write-in-Misnoted.ensures.writes plain ok)
