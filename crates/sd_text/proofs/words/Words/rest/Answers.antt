use Rattle.std.proofs.Common.{ap, sym, ◌∙◌}
use Rattle.sd_text.specs.Fields.{fields_left, joined}
use Rattle.sd_text.proofs.FieldLemmas.{joined-fields_of}
use Rattle.sd_text.proofs.words.Words.rest.Goals as goal

pub returns-in-Some : goal.returns-in-Some
returns-in-Some c =
    c.as_bytes.ensures.value ∙ sym (joined-fields_of c.in-Some.rest.now)
    ∙ ap joined (sym (ap fields_left c.in-Some.is) ∙ c.self.view_is)
