use Rattle.std.proofs.Common.{◌≡◌, ◌<◌, ◌≤◌, length, codes, map, ◌∙◌, arith}
use Rattle.std.proofs.lemmas.Bool.Decides.{nat_tests}
use Rattle.std.proofs.lemmas.List.{length-map}
use Rattle.toml.specs.Data.{get_member}
use Rattle.toml.specs.View.{array_view, table_view, view}
use Rattle.sd_base.specs.Limits.{most_drives}
use Rattle.sd_conf.specs.FirstFault.{At}
use Rattle.sd_conf.specs.Values.{required, drives_fault, tables_at}
use Rattle.sd_conf.specs.declared.fault.FaultKind.TheVariants.{Missing, Kind, Range}
use Rattle.sd_conf.proofs.DriveLemmas.{seen, drives_lack, drives_misfit, drives_no_tables, drives_none, drives_many, drives_counted}
use Rattle.sd_conf.proofs.ToldLemmas.{named}
use Rattle.sd_conf.proofs.ValueLemmas.{at_key}
use Rattle.sd_conf.proofs.drives.tables.Goals as goal

pub returns-in_default : goal.returns-in_default
returns-in_default c =
    let d = get_member (codes "drive") (table_view c.args.table.now) in
    named seen (At (codes "drive") (required drives_fault d)) (tables_at d) (codes "drive") Missing c.fault_at.result c.fault_at.ensures
    (drives_lack d (at_key c.get.result (codes "drive") c.args.table.now.entries c.get.ensures.value _ c.in_default.is))

pub returns-in_default-as_array : goal.returns-in_default-as_array
returns-in_default-as_array c =
    let d = get_member (codes "drive") (table_view c.args.table.now) in
    named seen (At (codes "drive") (required drives_fault d)) (tables_at d) (codes "drive") Kind c.fault_at-in_default-as_array.result c.fault_at-in_default-as_array.ensures
    (drives_misfit (view c.in-Some.value.now) d (at_key c.get.result (codes "drive") c.args.table.now.entries c.get.ensures.value _ c.in-Some.is)
    (rw c.in_default-as_array.is at c.as_array.ensures))

pub returns-in_default-tables : goal.returns-in_default-tables
returns-in_default-tables c =
    let d = get_member (codes "drive") (table_view c.args.table.now) in
    named seen (At (codes "drive") (required drives_fault d)) (tables_at d) (codes "drive") Kind c.fault_at-in_default-tables.result c.fault_at-in_default-tables.ensures
    (drives_no_tables (view c.in-Some.value.now) d (array_view c.in-Some-as_array.array.now)
    (at_key c.get.result (codes "drive") c.args.table.now.entries c.get.ensures.value _ c.in-Some.is)
    (rw c.in-Some-as_array.is at c.as_array.ensures) (rw c.in_default-tables.is at c.in-Ok.ensures))

pub returns-then-is_empty : goal.returns-then-is_empty
returns-then-is_empty c =
    let d = get_member (codes "drive") (table_view c.args.table.now) in
    let ts = map (λ t. table_view t.now) c.in-Some-tables.tables.items in
    let none : length c.in-Some-tables.tables.items ≡ 0 = grind (arith, nat_tests, c.is_empty.ensures, c.if-is_empty.true) in
    named seen (At (codes "drive") (required drives_fault d)) (tables_at d) (codes "drive") Missing c.fault_at-then-is_empty.result c.fault_at-then-is_empty.ensures
    (drives_none (view c.in-Some.value.now) d (array_view c.in-Some-as_array.array.now) ts
    (at_key c.get.result (codes "drive") c.args.table.now.entries c.get.ensures.value _ c.in-Some.is)
    (rw c.in-Some-as_array.is at c.as_array.ensures) (rw c.in-Some-tables.is at c.in-Ok.ensures)
    (length-map c.in-Some-tables.tables.items (λ t. table_view t.now) ∙ none))

pub returns-then-len : goal.returns-then-len
returns-then-len c =
    let d = get_member (codes "drive") (table_view c.args.table.now) in
    let items = c.in-Some-tables.tables.items in
    let ts = map (λ t. table_view t.now) items in
    let same : length ts ≡ length items = length-map items (λ t. table_view t.now) in
    let many : most_drives < length ts = omega (arith, same, c.len.ensures, c.if-len.true) in
    named seen (At (codes "drive") (required drives_fault d)) (tables_at d) (codes "drive") Range c.fault_at-then-len.result c.fault_at-then-len.ensures
    (drives_many (view c.in-Some.value.now) d (array_view c.in-Some-as_array.array.now) ts
    (at_key c.get.result (codes "drive") c.args.table.now.entries c.get.ensures.value _ c.in-Some.is)
    (rw c.in-Some-as_array.is at c.as_array.ensures) (rw c.in-Some-tables.is at c.in-Ok.ensures) many)

pub returns : goal.returns
returns c =
    let d = get_member (codes "drive") (table_view c.args.table.now) in
    let items = c.in-Some-tables.tables.items in
    let ts = map (λ t. table_view t.now) items in
    let same : length ts ≡ length items = length-map items (λ t. table_view t.now) in
    let held : 0 < length items = grind (arith, nat_tests, c.is_empty.ensures, c.if-is_empty.false) in
    let some : 0 < length ts = omega (arith, same, held) in
    let few : length ts ≤ most_drives = omega (arith, same, c.len.ensures, c.if-len.false) in
    drives_counted (view c.in-Some.value.now) d (array_view c.in-Some-as_array.array.now) ts
    (at_key c.get.result (codes "drive") c.args.table.now.entries c.get.ensures.value _ c.in-Some.is)
    (rw c.in-Some-as_array.is at c.as_array.ensures) (rw c.in-Some-tables.is at c.in-Ok.ensures) some few
