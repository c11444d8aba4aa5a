use Rattle.std.proofs.Common.{ap, ◌∙◌, ◌++◌, rules}
use Rattle.std.specs.Prelude.{FitsSigned}
use Rattle.std.specs.Int.{w64}
use Rattle.std.proofs.lemmas.Int.{to_z-of_z}
use Rattle.sd_base.specs.Field.{u32_bytes, i64_bytes}
use Rattle.sd_label.specs.Label.{front_bytes, totals_bytes, session_label_data}
use Rattle.sd_label.proofs.TextLemmas.{field_added, text_added}
use Rattle.sd_label.proofs.session.data_of.Goals as goal

pub returns-clause-bytes : goal.returns-clause-bytes
unfolding session_label_data
returns-clause-bytes c =
    let label = c.args.label.now in
    let front = field_added _ _ _ (front_bytes 1) c.new-data.ensures c.add_front.ensures.bytes in
    let job = field_added _ _ _ (u32_bytes label.job) front (c.add_u32.ensures.bytes ∙ ap (λ n. c.add_front.new.self ++ u32_bytes n) c.get.ensures.value) in
    let fits : FitsSigned w64 label.moment = search rules in
    let moment = field_added _ _ _ (i64_bytes label.moment) job (c.add_i64.ensures.bytes ∙ ap (λ z. c.add_u32.new.self ++ i64_bytes z) (to_z-of_z w64 label.moment fits)) in
    let pool = text_added _ _ _ _ _ moment c.add_text.ensures.bytes c.as_str.ensures.spelled in
    let media = text_added _ _ _ _ _ pool c.add_text-2.ensures.bytes c.as_str-2.ensures.spelled in
    field_added _ _ _ (totals_bytes label.totals) media c.add_totals.ensures.bytes
