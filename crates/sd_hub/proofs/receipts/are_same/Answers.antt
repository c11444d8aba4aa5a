use Rattle.std.proofs.Common.{◌≡◌, ◌<◌, ◌≤◌, refl, sym, ap, ◌∙◌, arith, get_or, length}
use Rattle.std.proofs.lemmas.Bool.{both_ways}
use Rattle.std.proofs.lemmas.List.{get_or_default, take_all, take_more_same}
use Rattle.sd_hub.proofs.ReceiptLemmas.{alike_same, same_alike}
use Rattle.sd_hub.proofs.receipts.are_same.Goals as goal

pub returns-then-ones-others : goal.returns-then-ones-others
returns-then-ones-others c = (λ e. absurd (cc e), λ same. absurd (c.if-ones-others.true (ap length same)))

pub returns-then-not-are_alike : goal.returns-then-not-are_alike
returns-then-not-are_alike c =
    let ones = c.args.ones.now in
    let others = c.args.others.now in
    let at = c.loop-at.at in
    let x = c.index-ones-at.result in
    let y = c.index-others-at.result in
    let within : at < length others = omega arith in (
      λ e. absurd (cc e),
      λ same.
          let one : x ≡ y = c.index-ones-at.is ∙ (ap (λ l. get_or l at x) same ∙ (get_or_default others at x y within ∙ sym c.index-others-at.is)) in
          absurd (both_ways _ c.if-not-are_alike.true (c.are_alike.ensures.1 (same_alike x y one))),
    )

pub loop-at-preserved : goal.loop-at-preserved
loop-at-preserved c =
    let ones = c.args.ones.now in
    let others = c.args.others.now in
    let at = c.loop-at.at in
    let x = c.index-ones-at.result in
    let y = c.index-others-at.result in
    let below : at < length ones = omega arith in
    let within : at < length others = omega arith in
    let one : x ≡ y = alike_same x y (c.are_alike.ensures.0 c.if-not-are_alike.false) in
    take_more_same ones others at x below within c.loop-at.invariant (sym c.index-ones-at.is ∙ (one ∙ (c.index-others-at.is ∙ get_or_default others at y x within)))

pub returns : goal.returns
returns c =
    let ones = c.args.ones.now in
    let others = c.args.others.now in
    let at = c.loop-at.at in
    let all : length ones ≤ at = omega arith in
    let all' : length others ≤ at = omega arith in
    (λ _. sym (take_all at ones all) ∙ (c.loop-at.invariant ∙ take_all at others all'), λ _. refl)
