use Rattle.std.proofs.Common.{◌≡◌, List, rules}
use Rattle.std.specs.List.{flat_map}
use Rattle.sd_console.specs.Requests.{requests_lines}
use Rattle.sd_desk.specs.declared.request.Request.{Request}
use Rattle.sd_lines.proofs.ConsoleLemmas.{told_as}
use Rattle.sd_text.specs.Lines.{line}
use Rattle.sd_lines.proofs.console.tell_requests.Goals as goal

pub returns-in-Ok-requests_text : goal.returns-in-Ok-requests_text
returns-in-Ok-requests_text g c =
    let is : c.deref-in-Ok-requests_text.result.now ≡ flat_map line (requests_lines c.in-Ok.requests.items) = search rules in
    told_as (λ (rs : List Request). flat_map line (requests_lines rs)) c.in-Ok.requests.items c.deref-in-Ok-requests_text.result.now c.show.result is c.show.ensures
