use Rattle.std.proofs.Common.{ap, ◌∙◌, refl, arith, ◌+◌, ◌≤◌, length}
use Rattle.byteorder.specs.Endian.{big_number}
use Rattle.sd_base.proofs.FieldLemmas.{u32_field}
use Rattle.sd_base.proofs.fields.get_u32.Goals as goal

pub returns-in-Ok-clause-field : goal.returns-in-Ok-clause-field
returns-in-Ok-clause-field c =
    let field = c.in-Ok.ensures.field in
    let there : c.args.at + 4 ≤ length c.args.bytes.now = c.in-Ok.ensures.there.0 refl in
    u32_field c.args.bytes.now c.args.at c.read_u32.result (λ i. let byte = c.type_inv.bytes i in omega arith) there (c.read_u32.ensures ∙ ap (big_number 4) field)
