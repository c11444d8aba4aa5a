use Rattle.std.proofs.Common.{◌≡◌, rules}
use Rattle.std.specs.List.{flat_map}
use Rattle.sd_console.specs.Status.{status_lines}
use Rattle.sd_lines.proofs.ConsoleLemmas.{told_as}
use Rattle.sd_machine.specs.declared.view.View.{View}
use Rattle.sd_text.specs.Lines.{line}
use Rattle.sd_lines.proofs.console.tell_status.Goals as goal

pub returns-in-Ok-status_text : goal.returns-in-Ok-status_text
returns-in-Ok-status_text g c =
    let is : c.deref.result.now ≡ flat_map line (status_lines c.in-Ok.view) = search rules in
    told_as (λ (v : View). flat_map line (status_lines v)) c.in-Ok.view c.deref.result.now c.show.result is c.show.ensures
