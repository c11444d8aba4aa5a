use Rattle.std.proofs.Common.{codes, [], unwrap_or}
use Rattle.toml.specs.Data.{get_member}
use Rattle.toml.specs.View.{table_view, view}
use Rattle.sd_conf.specs.FirstFault.{MediaTest}
use Rattle.sd_conf.specs.Values.{text_at}
use Rattle.sd_conf.specs.declared.fault.FaultKind.TheVariants.{Missing}
use Rattle.sd_conf.proofs.ToldLemmas.{named}
use Rattle.sd_conf.proofs.ValueLemmas.{at_key, media_lacks, media_there}
use Rattle.sd_conf.proofs.values.media.Goals as goal

pub returns-in_default : goal.returns-in_default
returns-in_default c =
    let d = get_member (codes "media") (table_view c.args.table.now) in
    named (λ told. told) (MediaTest d) (unwrap_or (text_at d) []) (codes "media") Missing c.fault_at.result c.fault_at.ensures
    (media_lacks d (at_key c.get.result (codes "media") c.args.table.now.entries c.get.ensures.value _ c.in_default.is))

pub returns : goal.returns
returns c =
    media_there (view c.in-Some.value.now) _ c.name.result
    (at_key c.get.result (codes "media") c.args.table.now.entries c.get.ensures.value _ c.in-Some.is) c.name.ensures
