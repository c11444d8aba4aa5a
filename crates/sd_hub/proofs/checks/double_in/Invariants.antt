use Rattle.std.proofs.Common.{◌<◌}
use Rattle.sd_base.proofs.ChoiceLemmas.{NoneBelow}
use Rattle.sd_hub.specs.Settles.{sessions_to, times_of}
use Rattle.sd_hub.proofs.checks.double_in.Given as goal

-- no key of the sessions so far is there twice
abbrev pub invariant-loop-told : goal.invariant-loop-told
invariant-loop-told g l = NoneBelow (λ s. 1 < times_of s.session.key (sessions_to l.no l.lanes l.ends)) l.sessions l.told-index
