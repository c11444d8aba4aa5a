use Rattle.std.proofs.Common.{◌≡◌, ℕ, ◌<◌}
use Rattle.sd_journal.specs.Names.{name_at}
use Rattle.sd_journal.proofs.names.Names.find.Given as goal

abbrev pub invariant-loop-place : goal.invariant-loop-place
invariant-loop-place l = (other : ℕ) → other < l.place → name_at l.self.names other ≡ l.name → ⊥
