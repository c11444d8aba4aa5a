use Rattle.std.proofs.Common.{◌≡◌, ◌<◌, ℕ, refl, sym, subst, ◌∙◌, arith, below_more, Some, length, slice_get}
use Rattle.std.proofs.lemmas.Bool.{both_ways}
use Rattle.std.proofs.lemmas.Option.{slice_get_read, slice_get_within}
use Rattle.sd_base.proofs.ChoiceLemmas.{same_some}
use Rattle.sd_drive.specs.Receipt.{ReceiptIs}
use Rattle.sd_hub.specs.Settles.{IsGiven}
use Rattle.sd_hub.proofs.receipts.foreign.Goals as goal

pub returns-then-not-given-clause-some : goal.returns-then-not-given-clause-some
returns-then-not-given-clause-some g c =
    let all = c.args.receipts.now in
    let at = c.loop-at.at in
    let r = c.index-receipts-at.result in
    let below : at < length all = omega arith in
    let there = slice_get_read all (length all) at r refl below c.index-receipts-at.is in
    (r, there, λ given. both_ways _ c.if-not-given.true (c.in_ok-given.ensures.1 given))

pub loop-at-preserved : goal.loop-at-preserved
loop-at-preserved g c =
    let all = c.args.receipts.now in
    let journal = c.args.drive.now.journal in
    let at = c.loop-at.at in
    let r = c.index-receipts-at.result in
    let below : at < length all = omega arith in
    let there = slice_get_read all (length all) at r refl below c.index-receipts-at.is in
    below_more (λ (k : ℕ). (x : ReceiptIs) → slice_get all k ≡ Some x → IsGiven journal x) at c.loop-at.invariant
    (λ x stands. subst (IsGiven journal) (same_some (sym there ∙ stands)) (c.in_ok-given.ensures.0 c.if-not-given.false))

pub returns-clause-none : goal.returns-clause-none
returns-clause-none g c = λ at r there.
    let within = slice_get_within c.args.receipts.now at r there in
    c.loop-at.invariant at (omega (arith, within)) r there
