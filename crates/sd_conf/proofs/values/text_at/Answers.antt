use Rattle.toml.specs.Data.{get_member}
use Rattle.toml.specs.View.{table_view, view}
use Rattle.sd_conf.specs.FirstFault.{At}
use Rattle.sd_conf.specs.Values.{optional, text_at, text_fault}
use Rattle.sd_conf.specs.declared.fault.FaultKind.TheVariants.{Kind}
use Rattle.sd_conf.proofs.ToldLemmas.{named}
use Rattle.sd_conf.proofs.ValueLemmas.{at_key, text_lacks, text_read, text_misfits}
use Rattle.sd_conf.proofs.values.text_at.Goals as goal

pub returns-in_default : goal.returns-in_default
returns-in_default c =
    text_lacks c.args.key.now _ (at_key c.get.result c.args.key.now c.args.table.now.entries c.get.ensures.value _ c.in_default.is)

pub returns-in_default-as_str : goal.returns-in_default-as_str
returns-in_default-as_str c =
    let d = get_member c.args.key.now (table_view c.args.table.now) in
    named (λ told. told) (At c.args.key.now (optional text_fault d)) (text_at d) c.args.key.now Kind c.fault_at.result c.fault_at.ensures
    (text_misfits c.args.key.now (view c.in-Some.value.now) d
    (at_key c.get.result c.args.key.now c.args.table.now.entries c.get.ensures.value _ c.in-Some.is) (rw c.in_default-as_str.is at c.as_str.ensures))

pub returns-in-Ok : goal.returns-in-Ok
returns-in-Ok c =
    let read = text_read c.args.key.now c.in-Some-as_str.text.now (view c.in-Some.value.now) _
    (at_key c.get.result c.args.key.now c.args.table.now.entries c.get.ensures.value _ c.in-Some.is) (rw c.in-Some-as_str.is at c.as_str.ensures) in
    (read.0, rw c.in-Ok.ensures read.1)
