use Rattle.std.proofs.Common.{◌≡◌, ◌≤◌, ◌++◌, List, length}
use Rattle.std.specs.Vec.{vec_capacity}
use Rattle.std.specs.Vec.Iter.{into_iter_items}
use Rattle.sd_jobs.specs.Jobs.{JobIs, EndEach}
use Rattle.sd_jobs.proofs.jobs.join_all.Given as goal

-- what the jobs so far came to, and those that are left
abbrev pub invariant-loop-one : goal.invariant-loop-one
invariant-loop-one g l = record {
  can : (goal.iterator-loop-one g).can_next l.one-iterator;
  finite : (goal.iterator-loop-one g).is_finite l.one-iterator;
  each : (front : List JobIs) × (l.fn.started.items ≡ front ++ into_iter_items l.one-iterator) × EndEach front l.ends.items;
  room : length l.fn.started.items ≤ vec_capacity l.ends;
}
