use Rattle.std.proofs.Common.{◌≡◌, sym, ap, ◌∙◌, arith, get_or, true, false}
use Rattle.std.proofs.lemmas.List.Sums.{count_by_more_yes, count_by_more_no}
use Rattle.sd_board.specs.Slots.{is_busy}
use Rattle.sd_board.proofs.finding.count_busy.Goals.{then-is_busy, else-is_busy}
use Rattle.sd_board.proofs.finding.count_busy.Goals as goal

pub loop-slot-preserved : goal.loop-slot-preserved
loop-slot-preserved g c =
    let slots = c.args.slots.now in
    let at = c.loop-slot.slot-index in
    let slot = c.slot-item.result in
    let within = c.loop-slot-test.true in
    let told = c.loop-slot.invariant.told in
    let few = c.loop-slot.invariant.few in
    elim c.if-is_busy.branch [
      | then-is_busy w ↦
          let busy : is_busy (get_or slots at slot) ≡ true = ap is_busy (sym c.slot-item.is) ∙ sym c.is_busy.ensures ∙ w.if-is_busy.true in
          let more = count_by_more_yes is_busy slots at slot within busy in
          record { told = omega (arith, more, told, w.busy-is); few = omega (arith, few, w.busy-is) }
      | else-is_busy w ↦
          let free : is_busy (get_or slots at slot) ≡ false = ap is_busy (sym c.slot-item.is) ∙ sym c.is_busy.ensures ∙ w.if-is_busy.false in
          let more = count_by_more_no is_busy slots at slot within free in
          record { told = omega (arith, more, told, w.busy-is); few = omega (arith, few, w.busy-is) }
    ]
