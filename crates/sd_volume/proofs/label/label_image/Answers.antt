use Rattle.std.proofs.Common.{◌≡◌, ◌++◌, length, ap, ◌∙◌, arith}
use Rattle.sd_label.specs.Label.{volume_label_bytes}
use Rattle.sd_label.proofs.LabelLemmas.{length-volume_label_bytes}
use Rattle.sd_volume.proofs.label.label_image.Goals as goal

pub seal-requires-clause-least : goal.seal-requires-clause-least
seal-requires-clause-least c =
    let label = c.args.label.now in
    let written : c.deref.result.now ≡ volume_label_bytes label = c.deref.ensures.value ∙ (c.in_ok-put_volume_label.ensures.ok ∙ ap (λ front. front ++ volume_label_bytes label) c.in_ok-record.ensures.items) in
    omega (arith, ap length written, length-volume_label_bytes label)
