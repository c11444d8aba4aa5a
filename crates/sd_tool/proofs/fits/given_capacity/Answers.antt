use Rattle.std.proofs.Common.{◌∙◌}
use Rattle.sd_tool.proofs.SettingLemmas.{given_else, given_here}
use Rattle.sd_tool.proofs.fits.given_capacity.Goals as goal
use Rattle.sd_tool.proofs.fits.given_capacity.Goals.{then-get, else-get}

pub loop-given-preserved : goal.loop-given-preserved
loop-given-preserved c =
    let drive = c.args.drive in
    let cs = c.args.capacities.now in
    let l = c.loop-given in
    let one = c.given-item in
    elim c.if-get.branch [
      | then-get w ↦
          w.bytes-is ∙ given_here drive 1048576 cs l.given-index l.bytes one.result one.is c.loop-given-test.true l.invariant
          (rw (c.get.ensures.value, c.get-in-loop-given.ensures.value) at w.if-get.true)
      | else-get w ↦
          w.bytes-is ∙ given_else drive 1048576 cs l.given-index l.bytes one.result one.is c.loop-given-test.true l.invariant
          (rw (c.get.ensures.value, c.get-in-loop-given.ensures.value) at w.if-get.false)
    ]
