use Rattle.std.proofs.Common.{ap, sym, ◌∙◌, length}
use Rattle.sd_label.specs.Label.{totals_bytes}
use Rattle.sd_label.proofs.LabelLemmas.{length-totals_bytes}
use Rattle.sd_label.proofs.session.totals_length.Goals as goal

pub returns-in-Some-clause-length : goal.returns-in-Some-clause-length
returns-in-Some-clause-length c = sym (ap (λ t. length (totals_bytes t)) c.in-Some.is ∙ length-totals_bytes c.in-Some.field-0)
