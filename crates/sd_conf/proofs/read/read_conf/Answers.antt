use Rattle.toml.specs.View.{table_view}
use Rattle.sd_conf.proofs.TextLemmas.{limits_told, conf_told, fault_told}
use Rattle.sd_conf.proofs.read.read_conf.Goals as goal

pub returns-in-Ok-clause-limits : goal.returns-in-Ok-clause-limits
returns-in-Ok-clause-limits c = limits_told (table_view c.in-Ok.table) c.conf.result c.conf.ensures

pub returns-in-Ok-clause-found : goal.returns-in-Ok-clause-found
returns-in-Ok-clause-found c = conf_told c.args.text.now (table_view c.in-Ok.table) c.conf.result c.in-Ok.ensures.ok c.conf.ensures

pub returns-in-Ok-clause-fault : goal.returns-in-Ok-clause-fault
returns-in-Ok-clause-fault c = fault_told c.args.text.now (table_view c.in-Ok.table) c.conf.result c.in-Ok.ensures.ok c.conf.ensures
