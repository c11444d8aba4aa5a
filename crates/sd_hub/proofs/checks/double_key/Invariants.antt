use Rattle.std.proofs.Common.{◌<◌}
use Rattle.sd_hub.specs.Settles.{sessions_to, times_of}
use Rattle.sd_hub.proofs.LaneLemmas.{NoneTo}
use Rattle.sd_hub.proofs.checks.double_key.Given as goal

-- no key of the lanes so far is there twice
abbrev pub invariant-loop-at : goal.invariant-loop-at
invariant-loop-at g l = NoneTo (λ s. 1 < times_of s.session.key (sessions_to l.no l.lanes l.ends)) l.no l.at l.ends
