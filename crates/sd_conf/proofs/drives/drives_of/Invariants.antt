use Rattle.std.proofs.Common.{◌≡◌, ◌++◌, Option, drop, map}
use Rattle.toml.specs.View.{table_view}
use Rattle.sd_conf.specs.Conf.{drive_of}
use Rattle.sd_conf.specs.FirstFault.{Fault, TablesFault}
use Rattle.sd_conf.proofs.drives.drives_of.Given as goal

abbrev pub invariant-loop-table : goal.invariant-loop-table
invariant-loop-table l = record {
  found : (found : Option Fault) → TablesFault (map (λ t. table_view t.now) (drop l.table-index l.tables)) found → TablesFault (map (λ t. table_view t.now) l.tables) found;
  read : l.drives.items ++ map drive_of (map (λ t. table_view t.now) (drop l.table-index l.tables)) ≡ map drive_of (map (λ t. table_view t.now) l.tables);
}
