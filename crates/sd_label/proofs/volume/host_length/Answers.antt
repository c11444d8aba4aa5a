use Rattle.std.proofs.Common.{◌+◌, ap, sym, ◌∙◌, length}
use Rattle.sd_label.specs.Label.{host_bytes}
use Rattle.sd_label.proofs.TextLemmas.{length-text_bytes}
use Rattle.sd_label.proofs.volume.host_length.Goals as goal

pub returns-in-Some-clause-length : goal.returns-in-Some-clause-length
returns-in-Some-clause-length c =
    c.text_length.ensures.length ∙ ap (λ name. length name + 1) c.as_str.ensures.spelled ∙ sym (length-text_bytes c.in-Some.host) ∙ sym (ap (λ host. length (host_bytes host)) c.in-Some.is)
