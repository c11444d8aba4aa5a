use Rattle.std.proofs.Common.{◌∙◌, ap, sym}
use Rattle.sd_span.proofs.SpanLemmas.{own_noted, other_passed}
use Rattle.sd_span.proofs.stretches.spans_of.Goals as goal
use Rattle.sd_span.proofs.stretches.spans_of.Goals.{then-eq+in_ok-grow, else-eq}

pub loop-placement-preserved : goal.loop-placement-preserved
loop-placement-preserved c =
    let placements = c.args.placements.now in
    let i = c.loop-placement.placement-index in
    let stretches = c.loop-placement.stretches.items in elim c.if-eq.branch [
      | then-eq+in_ok-grow w ↦
          ap (λ v. v.items) w.stretches-is ∙ w.in_ok-grow.ensures.ok
          ∙ own_noted c.args.key placements i c.placement-item.result stretches c.placement-item.is c.loop-placement-test.true (sym c.eq.ensures ∙ w.if-eq.true) c.loop-placement.invariant
      | else-eq w ↦
          ap (λ v. v.items) w.stretches-is
          ∙ other_passed c.args.key placements i c.placement-item.result stretches c.placement-item.is c.loop-placement-test.true (sym c.eq.ensures ∙ w.if-eq.false) c.loop-placement.invariant
    ]
