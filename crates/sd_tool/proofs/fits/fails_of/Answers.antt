use Rattle.std.proofs.Common.{ap, ◌∙◌}
use Rattle.sd_tool.proofs.SettingLemmas.{fails_else, fails_here}
use Rattle.sd_tool.proofs.fits.fails_of.Goals as goal
use Rattle.sd_tool.proofs.fits.fails_of.Goals.{then-get+in_ok-push, else-get}

pub loop-given-preserved : goal.loop-given-preserved
loop-given-preserved c =
    let drive = c.args.drive in
    let fs = c.args.fails.now in
    let l = c.loop-given in
    let one = c.given-item in
    elim c.if-get.branch [
      | then-get+in_ok-push w ↦
          ap (λ v. v.items) w.plan-is ∙ w.in_ok-push.ensures.items
          ∙ fails_here drive fs l.given-index l.plan.items one.result one.is c.loop-given-test.true l.invariant
          (rw (c.get.ensures.value, c.get-in-loop-given.ensures.value) at w.if-get.true)
      | else-get w ↦
          ap (λ v. v.items) w.plan-is
          ∙ fails_else drive fs l.given-index l.plan.items one.result one.is c.loop-given-test.true l.invariant
          (rw (c.get.ensures.value, c.get-in-loop-given.ensures.value) at w.if-get.false)
    ]
