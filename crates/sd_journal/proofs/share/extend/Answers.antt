use Rattle.std.proofs.Common.{◌++◌, ◌∷◌, [], arith, ap, ◌∙◌}
use Rattle.std.specs.Prelude.{slice_set, ◌-◌}
use Rattle.std.proofs.lemmas.Bool.{eq-eqb, ne_eqb}
use Rattle.sd_journal.proofs.StretchLemmas.{last_grown, other_begun, first_begun}
use Rattle.sd_journal.proofs.share.extend.Goals as goal
use Rattle.sd_journal.proofs.share.extend.Goals.{else-count-gt0-via-then-count-gt0+else-noted-index, else-count-gt0-via-else-count-gt0}

pub returns-then-noted-index-clause-stretches : goal.returns-then-noted-index-clause-stretches
returns-then-noted-index-clause-stretches c =
    let items = c.args.stretches.now.items in
    ap (slice_set items (c.len-count.result - 1)) c.go_on.ensures
    ∙ last_grown items (c.len-count.result - 1) c.index_mut.result.now c.index.result.now c.args.noted.now
    (omega (arith, c.len-count.ensures, c.if-count-gt0.true)) c.index_mut.ensures.value c.index.ensures (eq-eqb c.args.noted.now.volume c.index.result.now.volume c.if-noted-index.true)

pub returns-clause-stretches : goal.returns-clause-stretches
returns-clause-stretches c =
    let items = c.args.stretches.now.items in
    let begun = ap (λ s. items ++ s ∷ []) c.begun_by.ensures in
    c.push_reserved.ensures.items ∙ begun ∙ (elim c.else-count-gt0.branch [
      | else-count-gt0-via-then-count-gt0+else-noted-index w ↦
          other_begun items (c.len-count.result - 1) w.index.result.now c.args.noted.now (omega (arith, c.len-count.ensures, w.if-count-gt0.true)) w.index.ensures
          (ne_eqb c.args.noted.now.volume w.index.result.now.volume w.if-noted-index.false)
      | else-count-gt0-via-else-count-gt0 w ↦ first_begun items c.args.noted.now (omega (arith, c.len-count.ensures, w.if-count-gt0.false))
    ])
