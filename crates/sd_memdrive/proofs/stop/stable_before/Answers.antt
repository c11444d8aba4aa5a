use Rattle.std.proofs.Common.{◌≢◌, ℕ, ◌++◌, Vec, Global, take, ap, sym, ◌∙◌}
use Rattle.sd_memdrive.proofs.Changes.{undo_change-here, undo_change-other}
use Rattle.sd_memdrive.proofs.Stops.{undo-step}
use Rattle.sd_memdrive.specs.ChangeLog.{undo_change}
use Rattle.sd_memdrive.proofs.stop.stable_before.Goals as goal
use Rattle.sd_memdrive.proofs.stop.stable_before.Goals.{then-is_named+in_ok-extend_from_slice, else-is_named}

pub loop-undone-preserved : goal.loop-undone-preserved
loop-undone-preserved c =
    let change = c.index-later-later.result in
    let name = c.args.stored.now.name in
    let so_far = ap (undo_change change name) c.loop-undone.invariant
    ∙ sym (undo-step c.args.later.now c.loop-undone.undone change name (take c.args.stored.now.held.stable c.args.stored.now.held.bytes) c.loop-undone-test.true c.index-later-later.is) in
    elim c.if-is_named.branch [
      | then-is_named+in_ok-extend_from_slice w ↦ (
          let same = sym (c.is_named.ensures.0 w.if-is_named.true) in
          let items = w.truncate.ensures.items ∙ ap (take change.stable) (w.in_ok-extend_from_slice.ensures.items ∙ ap (λ lost. c.loop-undone.bytes.items ++ lost) w.as_slice.ensures) in
          ap (λ (v : Vec ℕ Global). v.items) w.bytes-is ∙ items ∙ sym (undo_change-here change name c.loop-undone.bytes.items same) ∙ so_far)
      | else-is_named w ↦ (
          let other : change.name ≢ name = λ h. (let t = c.is_named.ensures.1 (sym h) in let f = w.if-is_named.false in cc) in
          ap (λ (v : Vec ℕ Global). v.items) w.bytes-is ∙ sym (undo_change-other change name c.loop-undone.bytes.items other) ∙ so_far)
    ]
