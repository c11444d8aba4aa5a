use Rattle.std.proofs.Common.{◌≡◌, ◌≤◌, ◌++◌, length}
use Rattle.std.specs.Vec.{vec_capacity}
use Rattle.std.specs.Vec.Iter.{into_iter_items}
use Rattle.sd_jobs.proofs.jobs.start_all.Given as goal

-- the jobs so far, and those that are left
abbrev pub invariant-loop-job : goal.invariant-loop-job
invariant-loop-job g l = record {
  can : (goal.iterator-loop-job g).can_next l.job-iterator;
  finite : (goal.iterator-loop-job g).is_finite l.job-iterator;
  each : l.fn.jobs.items ≡ l.started.items ++ into_iter_items l.job-iterator;
  room : length l.fn.jobs.items ≤ vec_capacity l.started;
}
