use Rattle.std.proofs.Common.{arith, false}
use Rattle.std.specs.Prelude.{not}
use Rattle.std.proofs.lemmas.List.Sums.{count_by_more_yes, count_by_more_no}
use Rattle.sd_events.proofs.choosing.count_busy.Goals.{then-not-is_free, else-not-is_free}
use Rattle.sd_events.proofs.choosing.count_busy.Goals as goal

pub loop-is_free-preserved : goal.loop-is_free-preserved
loop-is_free-preserved g c =
    let frees = c.as_slice-is_free-items.result.now in
    let at = c.loop-is_free.is_free-index in
    let within = c.loop-is_free-test.true in
    let told = c.loop-is_free.invariant.told in
    let few = c.loop-is_free.invariant.few in
    elim c.if-not-is_free.branch [
      | then-not-is_free w ↦
          let more = count_by_more_yes not frees at false within (cc) in
          record { told = omega (arith, more, told, w.busy-is); few = omega (arith, few, w.busy-is) }
      | else-not-is_free w ↦
          let more = count_by_more_no not frees at false within (cc) in
          record { told = omega (arith, more, told, w.busy-is); few = omega (arith, few, w.busy-is) }
    ]
