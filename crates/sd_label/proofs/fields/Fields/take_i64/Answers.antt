use Rattle.std.proofs.Common.{◌≤◌, ap, ◌∙◌, length, Ok, rules}
use Rattle.std.specs.Prelude.{FitsSigned}
use Rattle.std.specs.Int.{w64}
use Rattle.std.proofs.lemmas.Int.{to_z-of_z}
use Rattle.sd_base.specs.Field.{i64_bytes}
use Rattle.sd_base.proofs.FieldLemmas.{length-u64_bytes}
use Rattle.sd_label.proofs.TextLemmas.{begins_long, i64_read}
use Rattle.sd_label.proofs.fields.Fields.take_i64.Goals as goal

pub returns-in_default-clause-read_back : goal.returns-in_default-clause-read_back
returns-in_default-clause-read_back c value more fits begins =
    let long : 8 ≤ length c.self.inside.rest.now = begins_long _ (i64_bytes value) more 8 (length-u64_bytes _) (c.self.view_is ∙ begins) in
    absurd (cc (c.in_default.ensures.there.1 long))

pub returns-clause-read_back : goal.returns-clause-read_back
returns-clause-read_back c value more fits begins =
    let read : FitsSigned w64 c.in-Ok.value = search rules in
    let same = i64_read c.self.inside.rest.now more c.in-Ok.value value read fits c.in-Ok.ensures.field (c.self.view_is ∙ begins) in
    (ap Ok (to_z-of_z w64 c.in-Ok.value read ∙ same.0), same.1)
