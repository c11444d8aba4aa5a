use Rattle.std.proofs.Common.{arith, refl}
use Rattle.sd_spool.proofs.Reading.{fills_more, fills_same}
use Rattle.sd_spool.proofs.opened.fill.Goals as goal
use Rattle.sd_spool.proofs.opened.fill.Goals.{in-Ok, in-Err-Interrupted}

pub loop-preserved : goal.loop-preserved
loop-preserved g c = elim c.match-read_at.branch [
  | in-Ok w ↦ rw w.count-is (
      fills_more _ _ _ _ _ _ _ c.read_at.new.into _ _ _ _ c.loop.invariant c.requires.whole
      refl
      c.read_at.auto.into
      (omega (arith, w.in-Ok.ensures.within, c.read_at.auto.into))
      refl
      (record { honest = c.read_at.ensures.goes.honest; same = c.read_at.ensures.same })
      w.in-Ok.ensures.ok)
  | in-Err-Interrupted w ↦ rw w.count-is (
      fills_same _ _ _ _ _ _ _ _ _ c.loop.invariant c.read_at.auto.into
      (record { honest = c.read_at.ensures.goes.honest; same = c.read_at.ensures.same }))
]
