use Rattle.std.proofs.Common.{◌≡◌, ◌<◌, ℕ, Some, slice_get}
use Rattle.sd_jobs.specs.Jobs.{JobIs, HasLine}
use Rattle.sd_jobs.proofs.jobs.have_lines.Given as goal

-- the jobs so far have lines
abbrev pub invariant-loop-at : goal.invariant-loop-at
invariant-loop-at g l = (k : ℕ) (job : JobIs) → k < l.at → slice_get l.jobs k ≡ Some job → HasLine l.lines job
