use Rattle.std.proofs.Common.{inr, map, codes}
use Rattle.toml.specs.Data.{get_member}
use Rattle.toml.specs.View.{table_view}
use Rattle.sd_conf.specs.Conf.{conf_of, drive_of, own_of}
use Rattle.sd_conf.specs.FirstFault.{FirstFault, OwnFault, DriveTest, TablesFault, ◌then◌}
use Rattle.sd_conf.specs.Values.{tables_at}
use Rattle.sd_conf.specs.declared.conf.Conf.{Conf}
use Rattle.sd_conf.specs.declared.conf.OwnConf.{OwnConf}
use Rattle.sd_conf.proofs.ConfLemmas.{first_fails, conf_read}
use Rattle.sd_conf.proofs.ToldLemmas.{first_tells, passed}
use Rattle.sd_conf.proofs.read.conf.Goals as goal

pub returns-in_err-own : goal.returns-in_err-own
returns-in_err-own c =
    let table = table_view c.args.table.now in
    let drives = DriveTest table then TablesFault (tables_at (get_member (codes "drive") table)) in
    passed (λ (k : Conf). k) (FirstFault table) (conf_of table) c.in_err-own.field-0.0 c.from_residual.result c.from_residual.ensures
    (first_tells (λ (k : OwnConf). k) (λ (k : Conf). k) (OwnFault table) drives (own_of table) (conf_of table) c.in_err-own.field-0.0 c.in_err-own.ensures)

pub returns-in_err-drives : goal.returns-in_err-drives
returns-in_err-drives c =
    let table = table_view c.args.table.now in
    let fault = c.in_err-drives.field-0.0 in
    passed (λ (k : Conf). k) (FirstFault table) (conf_of table) fault c.from_residual-in_err-drives.result c.from_residual-in_err-drives.ensures
    (first_fails (DriveTest table then TablesFault (tables_at (get_member (codes "drive") table))) (FirstFault table) (map drive_of (tables_at (get_member (codes "drive") table))) (conf_of table) fault
    (λ found here. inr (c.in_ok-own.ensures.0, here)) c.in_err-drives.ensures)

pub returns : goal.returns
returns c =
    let table = table_view c.args.table.now in (
      inr (c.in_ok-own.ensures.0, c.in_ok-drives.ensures.0),
      conf_read table c.in_ok-own.own c.in_ok-drives.drives c.in_ok-own.ensures.1 c.in_ok-drives.ensures.1,
    )
