use Rattle.std.proofs.Common.{◌≡◌, ◌∙◌, get_or, ap, sym}
use Rattle.std.proofs.lemmas.List.Sums.{fold_more}
use Rattle.sd_journal.specs.Walk.{walk_of, with_next, walk_step}
use Rattle.sd_journal.proofs.CellLemmas.{blank}
use Rattle.sd_journal.proofs.WalkLemmas.{found_own, found_other}
use Rattle.sd_journal.proofs.cells.walk.Goals as goal
use Rattle.sd_journal.proofs.cells.walk.Goals.{then-eq+in_ok-push, else-eq}

pub loop-cell-preserved : goal.loop-cell-preserved
loop-cell-preserved c =
    let whole = c.args.whole.now in
    let cells = c.args.cells.now in
    let key = c.args.key in
    let i = c.loop-cell.cell-index in
    let walked = c.loop-cell.walked in
    let noted = c.told_by-noted.result in
    let start = walk_of c.args.walked.now in
    let next : walk_of c.if-eq.walked ≡ with_next key (walk_of walked) noted = elim c.if-eq.branch [
      | then-eq+in_ok-push w ↦
          ap walk_of w.walked-is
          ∙ found_own key (walk_of walked) noted _ _ _ (sym c.eq.ensures ∙ w.if-eq.true) w.in_ok-push.ensures.items c.behind-walked.ensures w.first_of-walked.ensures
      | else-eq w ↦ ap walk_of w.walked-is ∙ found_other key (walk_of walked) noted _ (sym c.eq.ensures ∙ w.if-eq.false) c.behind-walked.ensures
    ] in
    next ∙ ap (with_next key (walk_of walked)) c.told_by-noted.ensures ∙ ap (λ v. walk_step whole key v (get_or cells i blank)) c.loop-cell.invariant
    ∙ sym (fold_more (walk_step whole key) start cells i blank c.loop-cell-test.true)
