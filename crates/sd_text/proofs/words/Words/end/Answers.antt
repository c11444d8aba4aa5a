use Rattle.std.proofs.Common.{ap, sym, ◌∙◌}
use Rattle.sd_text.specs.Fields.{fields_left}
use Rattle.sd_text.proofs.FieldLemmas.{fields_of-some}
use Rattle.sd_text.proofs.words.Words.end.Goals as goal

pub returns-in-Some : goal.returns-in-Some
returns-in-Some c = λ none. fields_of-some c.in-Some.field-0.now (sym (ap fields_left c.in-Some.is) ∙ c.self.view_is ∙ none)
