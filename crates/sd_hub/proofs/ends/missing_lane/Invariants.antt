use Rattle.std.proofs.Common.{ℕ, ◌≤◌}
use Rattle.std.specs.Prelude.{IsSome}
use Rattle.sd_hub.specs.Settles.{end_at}
use Rattle.sd_hub.proofs.ends.missing_lane.Given as goal

-- the ends of the lanes so far are there
abbrev pub invariant-loop-at : goal.invariant-loop-at
invariant-loop-at g l = (other : ℕ) → 1 ≤ other → other ≤ l.at → IsSome (end_at l.no other l.ends)
