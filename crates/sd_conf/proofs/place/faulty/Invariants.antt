use Rattle.std.proofs.Common.{◌≡◌, None, take, map}
use Rattle.toml.specs.View.{table_view}
use Rattle.sd_conf.specs.FirstFault.{TablesFault}
use Rattle.sd_conf.proofs.place.faulty.Given as goal

abbrev pub invariant-loop-table : goal.invariant-loop-table
invariant-loop-table l = record {
  number_is : l.number ≡ l.table-index;
  sound : TablesFault (map (λ t. table_view t.now) (take l.table-index l.tables)) None;
}
