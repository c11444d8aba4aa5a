use Rattle.std.proofs.Common.{codes}
use Rattle.toml.specs.Data.{get_member}
use Rattle.toml.specs.View.{table_view}
use Rattle.sd_conf.specs.FirstFault.{At}
use Rattle.sd_conf.specs.Values.{optional, is_spool_limit, number_fault, number_or}
use Rattle.sd_conf.proofs.ToldLemmas.{named}
use Rattle.sd_conf.proofs.ValueLemmas.{at_key, number_lacks, number_read, number_misfits, spools}
use Rattle.sd_conf.proofs.values.spool_at.Goals as goal

pub returns-in-None-clause-told : goal.returns-in-None-clause-told
returns-in-None-clause-told c =
    number_lacks (codes "spool") (is_spool_limit c.args.block) 0 _
    (at_key c.get.result (codes "spool") c.args.table.now.entries c.get.ensures.value _ c.in-None.is)

pub returns-in-Ok-clause-told : goal.returns-in-Ok-clause-told
returns-in-Ok-clause-told c =
    number_read (codes "spool") (is_spool_limit c.args.block) 0 c.in-Ok.number _ _
    (at_key c.get.result (codes "spool") c.args.table.now.entries c.get.ensures.value _ c.in-Some.is)
    c.in-Ok.ensures.0 (spools c.args.block c.in-Ok.number c.in-Ok.ensures.1)

pub returns-in-Err-clause-told : goal.returns-in-Err-clause-told
returns-in-Err-clause-told c =
    let d = get_member (codes "spool") (table_view c.args.table.now) in
    named (λ told. told) (At (codes "spool") (optional (number_fault (is_spool_limit c.args.block)) d))
    (number_or 0 d) (codes "spool") c.in-Err.kind c.fault_at.result c.fault_at.ensures
    (number_misfits (codes "spool") (is_spool_limit c.args.block) _ d c.in-Err.kind
    (at_key c.get.result (codes "spool") c.args.table.now.entries c.get.ensures.value _ c.in-Some.is) c.in-Err.ensures)
