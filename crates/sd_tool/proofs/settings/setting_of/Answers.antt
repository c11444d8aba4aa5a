use Rattle.sd_script.specs.declared.line.ScriptLine.TheVariants.{Set}
use Rattle.sd_tool.proofs.SettingLemmas.{none_tells}
use Rattle.sd_tool.proofs.settings.setting_of.Goals as goal

pub returns-in-Ok-clause-none : goal.returns-in-Ok-clause-none
returns-in-Ok-clause-none c =
    none_tells c.setting_in.result (λ other is setting form.
    let found = c.read_line.ensures.found (Set setting) (rw c.bytes.ensures form) tt in
    let here = c.in-Ok.is in
    other setting cc)
    c.setting_in.ensures.none

pub returns-in-Err-clause-none : goal.returns-in-Err-clause-none
returns-in-Err-clause-none c = λ is setting form.
    let found = c.read_line.ensures.found (Set setting) (rw c.bytes.ensures form) tt in
    let other = c.in-Err.is in
    cc
