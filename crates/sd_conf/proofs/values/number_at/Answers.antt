use Rattle.sd_conf.specs.FirstFault.{At}
use Rattle.sd_conf.specs.Values.{optional, is_within, number_fault, number_or}
use Rattle.toml.specs.Data.{get_member}
use Rattle.toml.specs.View.{table_view}
use Rattle.sd_conf.proofs.ToldLemmas.{named}
use Rattle.sd_conf.proofs.ValueLemmas.{at_key, number_lacks, number_read, number_misfits, within}
use Rattle.sd_conf.proofs.values.number_at.Goals as goal

pub returns-in-None-clause-told : goal.returns-in-None-clause-told
returns-in-None-clause-told c =
    number_lacks c.args.key.now (is_within c.args.limits.0 c.args.limits.1) c.args.default _
    (at_key c.get.result c.args.key.now c.args.table.now.entries c.get.ensures.value _ c.in-None.is)

pub returns-in-Ok-clause-told : goal.returns-in-Ok-clause-told
returns-in-Ok-clause-told c =
    number_read c.args.key.now (is_within c.args.limits.0 c.args.limits.1) c.args.default c.in-Ok.number _ _
    (at_key c.get.result c.args.key.now c.args.table.now.entries c.get.ensures.value _ c.in-Some.is)
    c.in-Ok.ensures.0 (within c.args.limits.0 c.args.limits.1 c.in-Ok.number c.in-Ok.ensures.1 c.in-Ok.ensures.2)

pub returns-in-Err-clause-told : goal.returns-in-Err-clause-told
returns-in-Err-clause-told c =
    let d = get_member c.args.key.now (table_view c.args.table.now) in
    named (λ told. told) (At c.args.key.now (optional (number_fault (is_within c.args.limits.0 c.args.limits.1)) d))
    (number_or c.args.default d) c.args.key.now c.in-Err.kind c.fault_at.result c.fault_at.ensures
    (number_misfits c.args.key.now (is_within c.args.limits.0 c.args.limits.1) _ d c.in-Err.kind
    (at_key c.get.result c.args.key.now c.args.table.now.entries c.get.ensures.value _ c.in-Some.is) c.in-Err.ensures)
