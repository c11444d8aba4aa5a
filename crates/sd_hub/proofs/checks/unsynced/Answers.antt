use Rattle.std.proofs.Common.{◌<◌, arith}
use Rattle.sd_hub.specs.Settles.{IsUnsettled}
use Rattle.sd_hub.proofs.LaneLemmas.{none_to, none_to_more, unsettled_to}
use Rattle.sd_hub.proofs.checks.unsynced.Goals as goal

pub returns-in-Some-clause-some : goal.returns-in-Some-clause-some
returns-in-Some-clause-some g c =
    let below : c.loop-at.at < c.args.lanes = omega arith in
    unsettled_to c.args.drive.now.journal c.args.no c.args.lanes c.loop-at.at c.args.ends.now c.in-Some.key below (rw c.sessions_at.ensures at c.in-Some.ensures.some)

pub loop-at-preserved : goal.loop-at-preserved
loop-at-preserved g c =
    none_to_more (IsUnsettled c.args.drive.now.journal) c.args.no c.loop-at.at c.args.ends.now c.loop-at.invariant (rw c.sessions_at.ensures at c.in_default.ensures.none)

pub returns-clause-none : goal.returns-clause-none
returns-clause-none g c =
    none_to (IsUnsettled c.args.drive.now.journal) c.args.no c.args.lanes c.args.ends.now (λ lane least most. c.loop-at.invariant lane least (omega arith))
