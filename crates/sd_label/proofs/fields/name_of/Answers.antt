use Rattle.std.proofs.lemmas.Str.{IsUtf8-from_ascii}
use Rattle.sd_label.proofs.TextLemmas.{IsName-ascii}
use Rattle.sd_label.proofs.fields.name_of.Goals as goal

pub returns-in_default-clause-accepted : goal.returns-in_default-clause-accepted
returns-in_default-clause-accepted g c = (
  (λ e. absurd (cc e)),
  (λ is_name. absurd (c.in_default.ensures.cases.0 (IsUtf8-from_ascii c.args.text.now (IsName-ascii c.args.text.now is_name)))),
)
