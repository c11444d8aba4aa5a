use Rattle.std.proofs.Common.{ap, ◌∙◌, arith}
use Rattle.sd_hub.specs.Settles.{times_of}
use Rattle.sd_hub.proofs.LaneLemmas.{times_more}
use Rattle.sd_hub.proofs.checks.times.Goals as goal

pub loop-at-preserved : goal.loop-at-preserved
loop-at-preserved g c =
    let i = c.loop-at.invariant in
    let more = times_more c.args.key c.args.no c.loop-at.at c.args.ends.now in
    let here = c.count.ensures ∙ ap (times_of c.args.key) c.sessions_at.ensures in
    record {
      counted = omega (arith, more, here, i.counted);
      few = omega (arith, i.few);
    }
