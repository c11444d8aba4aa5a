use Rattle.std.proofs.Common.{ℕ, ◌≡◌, ◌+◌, ◌<◌, sym, subst, ◌∙◌, arith, inl, inr}
use Rattle.std.specs.Prelude.{IsSome}
use Rattle.std.proofs.lemmas.Bool.{cases_lt}
use Rattle.sd_hub.specs.Settles.{end_at}
use Rattle.sd_hub.proofs.EndLemmas.{is_missing}
use Rattle.sd_hub.proofs.ends.missing_lane.Goals as goal

pub returns-then-not-is_there-clause-some : goal.returns-then-not-is_there-clause-some
returns-then-not-is_there-clause-some g c =
    let below : c.loop-at.at < c.args.lanes = omega arith in
    is_missing c.args.no c.args.lanes c.args.ends.now c.loop-at.at below c.loop-at.invariant (sym c.is_there.ensures ∙ c.if-not-is_there.true)

pub loop-at-preserved : goal.loop-at-preserved
loop-at-preserved g c =
    let at = c.loop-at.at in
    let here : IsSome (end_at c.args.no (at + 1) c.args.ends.now) = sym c.is_there.ensures ∙ c.if-not-is_there.false in
    λ other least most. elim (cases_lt at other) [
      | inl behind ↦ (let same : at + 1 ≡ other = omega arith in subst (λ (n : ℕ). IsSome (end_at c.args.no n c.args.ends.now)) same here)
      | inr before ↦ c.loop-at.invariant other least before
    ]

pub returns-clause-none : goal.returns-clause-none
returns-clause-none g c = λ lane least most. c.loop-at.invariant lane least (omega arith)
