use Rattle.std.proofs.Common.{◌+◌, List, drop, map}
use Rattle.toml.specs.View.{table_view}
use Rattle.sd_conf.specs.Conf.{drive_of}
use Rattle.sd_conf.specs.FirstFault.{TablesFault}
use Rattle.sd_conf.specs.declared.conf.DriveConf.{DriveConf}
use Rattle.sd_conf.proofs.ToldLemmas.{passed}
use Rattle.sd_conf.proofs.DriveLemmas.{next_of, table_fails, table_passes, drive_read}
use Rattle.sd_conf.proofs.drives.drives_of.Goals as goal

pub returns-in_err-drive : goal.returns-in_err-drive
returns-in_err-drive c =
    let tables = map (λ t. table_view t.now) c.args.tables.now in
    let rest = map (λ t. table_view t.now) (drop (c.loop-table.table-index + 1) c.args.tables.now) in
    passed (λ (ds : List DriveConf). ds) (TablesFault tables) (map drive_of tables) c.in_err-drive.field-0.0 c.from_residual.result c.from_residual.ensures
    (table_fails (map (λ t. table_view t.now) (drop c.loop-table.table-index c.args.tables.now)) tables rest (table_view c.table-item.result.now) c.in_err-drive.field-0.0
    c.loop-table.invariant.found
    (next_of (λ t. table_view t.now) c.args.tables.now c.loop-table.table-index c.table-item.result c.table-item.is c.loop-table-test.true) c.in_err-drive.ensures)

pub loop-table-preserved : goal.loop-table-preserved
loop-table-preserved c =
    let tables = map (λ t. table_view t.now) c.args.tables.now in
    let left = map (λ t. table_view t.now) (drop c.loop-table.table-index c.args.tables.now) in
    let rest = map (λ t. table_view t.now) (drop (c.loop-table.table-index + 1) c.args.tables.now) in
    let front = next_of (λ t. table_view t.now) c.args.tables.now c.loop-table.table-index c.table-item.result c.table-item.is c.loop-table-test.true in
    record {
      found = table_passes left tables rest (table_view c.table-item.result.now) c.loop-table.invariant.found front c.in_ok-drive.ensures.0;
      read = drive_read c.loop-table.drives.items c.push.new.self.items c.in_ok-drive.drive left tables rest (table_view c.table-item.result.now) c.in-Ok.ensures.items
          c.in_ok-drive.ensures.1 front c.loop-table.invariant.read;
    }
