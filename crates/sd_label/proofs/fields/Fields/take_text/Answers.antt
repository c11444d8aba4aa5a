use Rattle.std.proofs.Common.{◌+◌, ap, sym, ◌∙◌, take, ◌++◌}
use Rattle.std.specs.Prelude.{position, ◌==◌}
use Rattle.std.proofs.lemmas.List.{take_rest}
use Rattle.sd_label.specs.Label.{text_bytes}
use Rattle.sd_label.proofs.TextLemmas.{position-text_bytes, text_before_zero, text_read}
use Rattle.sd_label.proofs.fields.Fields.take_text.Goals as goal

pub returns-in_default-clause-read_back : goal.returns-in_default-clause-read_back
returns-in_default-clause-read_back c text more none begins =
    let found = c.in_default.ensures ∙ ap (position (λ byte. byte == 0)) (c.self.view_is ∙ begins) ∙ position-text_bytes text more none in
    absurd (cc found)

pub returns-clause-no_zero : goal.returns-clause-no_zero
returns-clause-no_zero c = (text_before_zero c.self.inside.rest.now c.in-Some.end (sym c.in-Some.ensures)).0

pub returns-clause-field : goal.returns-clause-field
returns-clause-field c =
    let rest = c.self.inside.rest.now in
    let text = take c.in-Some.end rest in
    sym c.self.view_is ∙ (text_before_zero rest c.in-Some.end (sym c.in-Some.ensures)).1
    ∙ ap (λ l. text_bytes text ++ l) (sym (take_rest rest (c.in-Some.end + 1)))

pub returns-clause-read_back : goal.returns-clause-read_back
returns-clause-read_back c text more none begins =
    text_read c.self.inside.rest.now text more c.in-Some.end (sym c.in-Some.ensures) none (c.self.view_is ∙ begins)
