use Rattle.std.proofs.Common.{sym, ap, ◌∙◌}
use Rattle.sd_append.specs.Text.{trimmed}
use Rattle.sd_append.proofs.TextLemmas.{trimmed-ended, trimmed-whole}
use Rattle.sd_append.proofs.text.trimmed.Goals as goal

pub returns-then-ends_text : goal.returns-then-ends_text
returns-then-ends_text c =
    let parts = c.in-Some.ensures.cases in
    sym (ap trimmed parts.0 ∙ trimmed-ended c.in-Some.front.now c.in-Some.last.now (sym c.ends_text.ensures ∙ c.if-ends_text.true))

pub returns-else-ends_text : goal.returns-else-ends_text
returns-else-ends_text c =
    let parts = c.in-Some.ensures.cases in
    parts.0 ∙ sym (ap trimmed parts.0 ∙ trimmed-whole c.in-Some.front.now c.in-Some.last.now (sym c.ends_text.ensures ∙ c.if-ends_text.false))
