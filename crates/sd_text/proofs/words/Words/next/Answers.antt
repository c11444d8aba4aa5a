use Rattle.std.proofs.Common.{ap, sym, ◌∙◌, lit<}
use Rattle.sd_text.specs.Fields.{fields_left}
use Rattle.sd_text.proofs.FieldLemmas.{fields_of-none, fields_of-first}
use Rattle.sd_text.proofs.words.Words.next.Goals as goal

pub returns-in-Some : goal.returns-in-Some
returns-in-Some c =
    let parts = c.in-Some.ensures.byte (lit< tt) (λ w o found. found) in
    sym c.self.view_is ∙ ap fields_left c.in_ok-rest.was
    ∙ fields_of-first c.in_ok-rest.rest.now c.in-Some.field.now c.in-Some.behind.now parts.0 parts.1 parts.2

pub returns-in-None : goal.returns-in-None
returns-in-None c =
    sym c.self.view_is ∙ ap fields_left c.in_ok-rest.was
    ∙ fields_of-none c.in_ok-rest.rest.now (c.in-None.ensures.byte (lit< tt) (λ w o found. found))
