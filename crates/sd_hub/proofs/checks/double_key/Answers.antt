use Rattle.std.proofs.Common.{◌<◌, arith}
use Rattle.sd_line.specs.Ends.{ToldSession}
use Rattle.sd_hub.specs.Settles.{sessions_to, times_of}
use Rattle.sd_hub.proofs.LaneLemmas.{distinct, none_to, none_to_more}
use Rattle.sd_hub.proofs.checks.double_key.Goals as goal

pub loop-at-preserved : goal.loop-at-preserved
loop-at-preserved g c =
    let all = sessions_to c.args.no c.args.lanes c.args.ends.now in
    none_to_more (λ (s : ToldSession). 1 < times_of s.session.key all) c.args.no c.loop-at.at c.args.ends.now c.loop-at.invariant
    (rw c.sessions_at.ensures at c.in_default.ensures.none)

pub returns-clause-none : goal.returns-clause-none
returns-clause-none g c =
    let all = sessions_to c.args.no c.args.lanes c.args.ends.now in
    distinct all (none_to (λ (s : ToldSession). 1 < times_of s.session.key all) c.args.no c.args.lanes c.args.ends.now (λ lane least most. c.loop-at.invariant lane least (omega arith)))
