use Rattle.std.proofs.Common.{◌+◌, ap, ◌∙◌, arith, length, length-append}
use Rattle.sd_hub.specs.Settles.{sessions_at, sessions_to}
use Rattle.sd_hub.proofs.LaneLemmas.{to_more}
use Rattle.sd_hub.proofs.checks.count_all.Goals as goal

pub loop-at-preserved : goal.loop-at-preserved
loop-at-preserved g c =
    let i = c.loop-at.invariant in
    let at = c.loop-at.at in
    let more = ap length (to_more c.args.no at c.args.ends.now) ∙ length-append (sessions_to c.args.no at c.args.ends.now) (sessions_at c.args.no (at + 1) c.args.ends.now) in
    let here = ap length c.sessions_at.ensures in
    record {
      counted = omega (arith, more, here, i.counted);
      few = omega (arith, i.few);
    }
