use Rattle.sd_hub.specs.Settles.{IsUnsettled}
use Rattle.sd_hub.proofs.LaneLemmas.{NoneTo}
use Rattle.sd_hub.proofs.checks.unsynced.Given as goal

-- all sessions of the lanes so far are settled
abbrev pub invariant-loop-at : goal.invariant-loop-at
invariant-loop-at g l = NoneTo (IsUnsettled l.drive.journal) l.no l.at l.ends
