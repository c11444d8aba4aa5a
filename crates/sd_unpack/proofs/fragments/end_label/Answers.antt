use Rattle.std.proofs.Common.{◌≡◌, ◌≢◌, subst, rules}
use Rattle.std.specs.Prelude.{Some, None}
use Rattle.sd_unpack.specs.Stage.{AreTotalsOf}
use Rattle.sd_unpack.proofs.LabelLemmas.{end_found, other_totals, totals_past}
use Rattle.sd_unpack.proofs.fragments.end_label.Goals as goal

pub returns-in_default-totals-clause-err : goal.returns-in_default-totals-clause-err
returns-in_default-totals-clause-err c =
    let read = c.in-Ok.ensures.label in
    let none : c.args.totals ≡ None = search rules in
    λ records are. (c.requires.index, totals_past c.args.fragment.now c.args.bytes.now c.in-Ok.label records c.requires.fragment read.0 read.1 c.requires.bytes (subst (λ t. AreTotalsOf t records) none are))

pub returns-then-eq-clause-ok : goal.returns-then-eq-clause-ok
returns-then-eq-clause-ok c =
    let read = c.in-Ok.ensures.label in
    let said : c.in-Ok.label.totals ≡ Some c.in-Some.totals = search rules in
    λ records are. end_found c.args.fragment.now c.args.bytes.now c.in-Ok.label c.in-Some.totals records c.requires.fragment read.0 read.1 c.requires.bytes said
    (subst (λ t. AreTotalsOf t records) c.in-Some.is are)

pub returns-else-eq-clause-err : goal.returns-else-eq-clause-err
returns-else-eq-clause-err c =
    let read = c.in-Ok.ensures.label in
    let other : c.in-Ok.label.totals ≢ Some c.in-Some.totals = search rules in
    λ records are. (
      c.requires.index,
      other_totals c.args.fragment.now c.args.bytes.now c.in-Ok.label c.in-Some.totals records c.requires.fragment read.0 read.1 c.requires.bytes other
          (subst (λ t. AreTotalsOf t records) c.in-Some.is are),
    )
