use Rattle.std.proofs.Common.{◌+◌, ◌≤◌, ap, ◌∙◌, ◌++◌, arith, length}
use Rattle.std.proofs.lemmas.List.{length-take-le}
use Rattle.sd_label.specs.Label.{text_bytes}
use Rattle.sd_label.proofs.TextLemmas.{text_put}
use Rattle.sd_label.proofs.data.LabelData.add_text.Goals as goal

pub returns-clause-bytes : goal.returns-clause-bytes
returns-clause-bytes c =
    let d = c.self.inside in
    let within : d.used ≤ length d.bytes = omega arith in
    let room : d.used + length c.args.text.now + 1 ≤ length d.bytes = omega (arith, length-take-le d.used d.bytes within, ap length c.self.view_is) in
    text_put d.bytes c.args.text.now c.copy_from_slice.new.self d.used _ room (c.copy_from_slice.ensures.after ∙ c.as_bytes.ensures.value) (omega arith)
    ∙ ap (λ l. l ++ text_bytes c.args.text.now) c.self.view_is
