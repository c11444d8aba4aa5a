use Rattle.std.proofs.Common.{ap, ◌∙◌, ◌++◌, rules}
use Rattle.std.specs.Prelude.{FitsSigned}
use Rattle.std.specs.Int.{w64}
use Rattle.std.proofs.lemmas.Int.{to_z-of_z}
use Rattle.sd_base.specs.Field.{i64_bytes}
use Rattle.sd_label.specs.Label.{volume_label_version, front_bytes, host_bytes, volume_label_data}
use Rattle.sd_label.proofs.TextLemmas.{field_added, text_added}
use Rattle.sd_label.proofs.volume.data_of.Goals as goal

pub returns-clause-bytes : goal.returns-clause-bytes
unfolding volume_label_data
returns-clause-bytes c =
    let front = field_added _ _ _ (front_bytes (volume_label_version c.args.label.now.host)) c.new-data.ensures (c.add_front.ensures.bytes ∙ ap (λ v. c.new-data.result ++ front_bytes v) c.version_of.ensures) in
    let fits : FitsSigned w64 c.args.label.now.moment = search rules in
    let moment = field_added _ _ _ (i64_bytes c.args.label.now.moment) front (c.add_i64.ensures.bytes ∙ ap (λ z. c.add_front.new.self ++ i64_bytes z) (to_z-of_z w64 c.args.label.now.moment fits)) in
    let name = text_added _ _ _ _ _ moment c.add_text.ensures.bytes c.as_str.ensures.spelled in
    let pool = text_added _ _ _ _ _ name c.add_text-2.ensures.bytes c.as_str-2.ensures.spelled in
    let media = text_added _ _ _ _ _ pool c.add_text-3.ensures.bytes c.as_str-3.ensures.spelled in
    field_added _ _ _ (host_bytes c.args.label.now.host) media c.add_host.ensures.bytes
