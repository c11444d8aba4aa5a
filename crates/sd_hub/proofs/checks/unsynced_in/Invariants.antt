use Rattle.sd_base.proofs.ChoiceLemmas.{NoneBelow}
use Rattle.sd_hub.specs.Settles.{IsUnsettled}
use Rattle.sd_hub.proofs.checks.unsynced_in.Given as goal

-- the sessions so far are settled
abbrev pub invariant-loop-told : goal.invariant-loop-told
invariant-loop-told g l = NoneBelow (IsUnsettled l.drive.journal) l.sessions l.told-index
