use Rattle.std.proofs.Common.{arith, ap, length}
use Rattle.sd_label.proofs.LabelLemmas.{length-volume_label_bytes}
use Rattle.sd_label.proofs.volume.volume_label_length.Goals as goal

pub returns-clause-length : goal.returns-clause-length
returns-clause-length c =
    omega (arith, length-volume_label_bytes c.args.label.now, ap length c.as_str.ensures.spelled, ap length c.as_str-2.ensures.spelled, ap length c.as_str-3.ensures.spelled, c.host_length.ensures.length)
