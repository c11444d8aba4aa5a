use Rattle.std.proofs.Common.{◌^◌, ◌<◌, ◌≤◌, ap, ◌∙◌, length, Ok, rules}
use Rattle.sd_base.specs.Field.{u64_bytes}
use Rattle.sd_base.proofs.FieldLemmas.{length-u64_bytes}
use Rattle.sd_label.proofs.TextLemmas.{begins_long, u64_read}
use Rattle.sd_label.proofs.fields.Fields.take_u64.Goals as goal

pub returns-in_default-clause-read_back : goal.returns-in_default-clause-read_back
returns-in_default-clause-read_back c value more fits begins =
    let long : 8 ≤ length c.self.inside.rest.now = begins_long _ (u64_bytes value) more 8 (length-u64_bytes value) (c.self.view_is ∙ begins) in
    absurd (cc (c.in_default.ensures.there.1 long))

pub returns-clause-read_back : goal.returns-clause-read_back
returns-clause-read_back c value more fits begins =
    let read : c.in-Ok.value < 2 ^ 64 = search rules in
    let same = u64_read c.self.inside.rest.now more c.in-Ok.value value read fits c.in-Ok.ensures.field (c.self.view_is ∙ begins) in
    (ap Ok same.0, same.1)
