use Rattle.std.proofs.Common.{◌∙◌, ap, ◌++◌, ◌∷◌, [], ◌+◌, List}
use Rattle.sd_span.specs.declared.span.Span.{Span}
use Rattle.sd_span.proofs.SpanLemmas.{numbered_more}
use Rattle.sd_span.proofs.stretches.numbered.Goals as goal

pub loop-index-preserved : goal.loop-index-preserved
loop-index-preserved c =
    let stretch = c.index-stretches-index.result in
    let with_volume : _ → Span = λ v. record stretch { volume = v; vol_index = c.loop-index.index + 1 } in
    c.in_ok-push.ensures.items ∙ ap (λ v. c.loop-index.spans.items ++ with_volume v ∷ []) c.copy.ensures
    ∙ ap (λ (l : List Span). l ++ with_volume stretch.volume ∷ []) c.loop-index.invariant
    ∙ numbered_more c.args.stretches.now c.loop-index.index stretch c.index-stretches-index.is c.loop-index-test.true
