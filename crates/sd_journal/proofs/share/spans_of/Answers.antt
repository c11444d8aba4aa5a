use Rattle.std.proofs.Common.{◌<◌, ◌∙◌, ◌++◌, ◌∷◌, [], map, length, ap₂, sym, arith, get_or}
use Rattle.std.proofs.lemmas.List.{get_or-map, length-map}
use Rattle.sd_span.proofs.SpanLemmas.{numbered_more}
use Rattle.sd_journal.specs.Stretch.{span_of}
use Rattle.sd_journal.proofs.StretchLemmas.{empty}
use Rattle.sd_journal.proofs.share.spans_of.Goals as goal

pub loop-at-preserved : goal.loop-at-preserved
loop-at-preserved c =
    let names = c.args.names.now.names in
    let ss = c.args.stretches.now in
    let i = c.loop-at.at in
    let test = c.loop-at-test.true in
    let long = length-map ss (span_of names) in
    let below : i < length (map (span_of names) ss) = omega (arith, long, test) in
    let one = span_of names (get_or ss i empty) in
    c.in_ok-push.ensures.items ∙ ap₂ (λ l x. l ++ x ∷ []) c.loop-at.invariant c.span.ensures
    ∙ numbered_more (map (span_of names) ss) i one (sym (get_or-map (span_of names) ss i empty one test)) below
