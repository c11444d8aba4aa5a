use Rattle.std.proofs.Common.{◌≡◌, true, false, get_or, sym, ap, ◌∙◌, arith}
use Rattle.std.proofs.lemmas.List.Sums.{count_by_more_no, count_by_more_yes}
use Rattle.sd_base.specs.Key.{is_key}
use Rattle.sd_line.specs.Ends.{ToldSession}
use Rattle.sd_hub.proofs.checks.count.Goals.{else-is_of, then-is_of}
use Rattle.sd_hub.proofs.checks.count.Goals as goal

pub loop-told-preserved : goal.loop-told-preserved
loop-told-preserved g c =
    let p = λ (s : ToldSession). is_key s.session.key c.args.key in
    let sessions = c.args.sessions.now in
    let at = c.loop-told.told-index in
    let s = c.told-item.result in
    let within = c.loop-told-test.true in
    let i = c.loop-told.invariant in
    elim c.if-is_of.branch [
      | then-is_of w ↦
          let one : p (get_or sessions at s) ≡ true = ap p (sym c.told-item.is) ∙ (sym c.is_of.ensures ∙ w.if-is_of.true) in
          let more = count_by_more_yes p sessions at s within one in
          record { counted = omega (arith, more, i.counted, w.many-is); few = omega (arith, i.few, w.many-is) }
      | else-is_of w ↦
          let none : p (get_or sessions at s) ≡ false = ap p (sym c.told-item.is) ∙ (sym c.is_of.ensures ∙ w.if-is_of.false) in
          let more = count_by_more_no p sessions at s within none in
          record { counted = omega (arith, more, i.counted, w.many-is); few = omega (arith, i.few, w.many-is) }
    ]
