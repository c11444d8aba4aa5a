use Rattle.std.proofs.Common.{◌<◌, ◌∙◌, length, ap, sym, arith}
use Rattle.std.specs.Prelude.{◌==◌}
use Rattle.std.proofs.lemmas.Bool.{cond-true, cond-false, eq-eqb, ne_eqb}
use Rattle.std.proofs.lemmas.List.{set-get_or}
use Rattle.std.proofs.lemmas.List.Sums.{get_or-le-sum_by}
use Rattle.sd_journal.specs.Stretch.{counted}
use Rattle.sd_journal.proofs.StretchLemmas.{empty, rest_at, mark_more, mark_all}
use Rattle.sd_journal.proofs.share.mark_each.Goals as goal
use Rattle.sd_journal.proofs.share.mark_each.Goals.{then-volume-stretches, else-volume-stretches}

pub mark-requires : goal.mark-requires
mark-requires c =
    let ss = c.args.stretches.now in
    let i = c.loop-at.at in
    let same = ap counted (rest_at c.args.mark c.args.volume ss c.loop-at.stretches i empty c.loop-at-test.true c.loop-at.invariant) in
    let least = get_or-le-sum_by counted ss i empty c.loop-at-test.true in
    let fits = c.requires in
    omega (arith, same, least, fits)

pub loop-at-preserved : goal.loop-at-preserved
loop-at-preserved c =
    let ss = c.args.stretches.now in
    let ys = c.loop-at.stretches in
    let i = c.loop-at.at in
    let same = c.loop-at.auto.stretches in
    let test = c.loop-at-test.true in
    let below : i < length ys = omega (arith, same, test) in elim c.if-volume-stretches.branch [
      | then-volume-stretches w ↦
          w.stretches-is ∙ mark_more c.args.mark c.args.volume ss ys i empty _ c.loop-at-test.true below c.loop-at.invariant
          (w.mark.ensures ∙ sym (cond-true (c.args.volume == _) _ _ (eq-eqb c.args.volume _ w.if-volume-stretches.true)))
      | else-volume-stretches w ↦
          w.stretches-is ∙ sym (set-get_or ys i empty) ∙ mark_more c.args.mark c.args.volume ss ys i empty _ c.loop-at-test.true below c.loop-at.invariant
          (sym (cond-false (c.args.volume == _) _ _ (ne_eqb c.args.volume _ w.if-volume-stretches.false)))
    ]

pub returns : goal.returns
returns c = mark_all c.args.mark c.args.volume c.args.stretches.now c.loop-at.stretches c.loop-at.at c.loop-at-test.false c.loop-at.invariant
