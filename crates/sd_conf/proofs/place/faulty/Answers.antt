use Rattle.std.proofs.Common.{◌+◌, ◌∙◌, List, [], ◌∷◌, ◌++◌, None, ap, map, subst, sym, take}
use Rattle.std.proofs.lemmas.List.{map_more}
use Rattle.toml.specs.Data.{Members}
use Rattle.toml.specs.View.{table_view}
use Rattle.sd_conf.specs.Conf.{drive_of}
use Rattle.sd_conf.specs.FirstFault.{TablesFault}
use Rattle.sd_conf.proofs.PlaceLemmas.{key_told, tables_more, table_at_fault}
use Rattle.sd_conf.proofs.place.faulty.Goals as goal

pub returns-in-Err-Key : goal.returns-in-Err-Key
returns-in-Err-Key c =
    table_at_fault (λ t. table_view t.now) c.args.tables.now c.loop-table.table-index (c.loop-table.number + 1) c.table-item.result (c.in-Err-Key.field-0-0, c.in-Err-Key.field-0-1)
    c.table-item.is c.loop-table-test.true (ap (λ n. n + 1) c.loop-table.invariant.number_is) c.loop-table.invariant.sound
    (key_told (table_view c.table-item.result.now) (drive_of (table_view c.table-item.result.now)) c.in-Err-Key.field-0 c.in-Err-Key.field-0-0 c.in-Err-Key.field-0-1
    c.in-Err-Key.field-0-is c.in-Err-Key.ensures)

pub loop-table-preserved : goal.loop-table-preserved
loop-table-preserved c =
    let tables = c.args.tables.now in
    let i = c.loop-table.table-index in
    let table = c.table-item.result in
    let more = map_more (λ t. table_view t.now) tables i table c.loop-table-test.true ∙ ap (λ t. map (λ t. table_view t.now) (take i tables) ++ table_view t.now ∷ []) (sym c.table-item.is) in
    record {
      number_is = ap (λ n. n + 1) c.loop-table.invariant.number_is;
      sound = subst (λ (ts : List Members). TablesFault ts None) (sym more) (tables_more (map (λ t. table_view t.now) (take i tables)) (table_view table.now) c.loop-table.invariant.sound c.in-Ok.ensures.0);
    }
