use Rattle.std.proofs.Common.{ap, ◌∙◌, ◌++◌}
use Rattle.std.proofs.lemmas.List.{append_assoc}
use Rattle.sd_base.specs.Field.{u32_bytes}
use Rattle.sd_label.specs.Label.{text_bytes, front_bytes}
use Rattle.sd_label.proofs.TextLemmas.{profile_text}
use Rattle.sd_label.proofs.data.LabelData.add_front.Goals as goal

pub returns-clause-bytes : goal.returns-clause-bytes
unfolding front_bytes
returns-clause-bytes c =
    c.add_u32.ensures.bytes ∙ ap (λ l. l ++ u32_bytes c.args.version) c.add_text.ensures.bytes
    ∙ append_assoc c.args.self.now (text_bytes profile_text) (u32_bytes c.args.version)
