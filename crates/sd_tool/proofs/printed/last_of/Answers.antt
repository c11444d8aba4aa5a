use Rattle.std.proofs.Common.{None, Some, cond, take, ap, sym, ◌∙◌}
use Rattle.std.specs.Option.{option_copied}
use Rattle.sd_tool.specs.Printed.{last_printed}
use Rattle.sd_tool.proofs.PrintedLemmas.{last_more}
use Rattle.sd_tool.proofs.printed.last_of.Goals as goal
use Rattle.sd_tool.proofs.printed.last_of.Goals.{then-eq, else-eq}

pub loop-closed-preserved : goal.loop-closed-preserved
loop-closed-preserved c =
    let key = c.args.key in
    let cs = c.args.sessions.now in
    let n = c.loop-closed.closed-index in
    let one = c.closed-item.result in
    let more = last_more key None cs n one c.closed-item.is c.loop-closed-test.true in
    elim c.if-eq.branch [
      | then-eq w ↦
          ap option_copied w.last-is
          ∙ sym (more ∙ ap (λ b. cond b (Some one) (last_printed key None (take n cs))) (sym c.eq.ensures ∙ w.if-eq.true))
      | else-eq w ↦
          ap option_copied w.last-is ∙ c.loop-closed.invariant
          ∙ sym (more ∙ ap (λ b. cond b (Some one) (last_printed key None (take n cs))) (sym c.eq.ensures ∙ w.if-eq.false))
    ]
