use Rattle.std.proofs.Common.{◌≡◌, ◌++◌, drop, map, option_map}
use Rattle.toml.specs.View.{items_view, table_view}
use Rattle.sd_conf.specs.Values.{tables_of}
use Rattle.sd_conf.proofs.drives.tables_of.Given as goal

abbrev pub invariant-loop-value : goal.invariant-loop-value
invariant-loop-value l =
    option_map (λ more. map (λ t. table_view t.now) l.tables.items ++ more) (tables_of (items_view (drop l.value-index l.array.items)))
    ≡ tables_of (items_view l.array.items)
