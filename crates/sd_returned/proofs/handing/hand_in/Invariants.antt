use Rattle.std.proofs.Common.{◌≡◌, ◌++◌, List}
use Rattle.std.specs.Vec.Iter.{into_iter_items}
use Rattle.sd_jobs.specs.Jobs.{JobEndIs}
use Rattle.sd_returned.specs.Listed.{lane_ends, receipts_in}
use Rattle.sd_returned.proofs.handing.hand_in.Given as goal

-- what was handed in of those so far, and those that are left
abbrev pub invariant-loop-one : goal.invariant-loop-one
invariant-loop-one g l = record {
  can : (goal.iterator-loop-one g).can_next l.one-iterator;
  finite : (goal.iterator-loop-one g).is_finite l.one-iterator;
  each : (front : List JobEndIs) × (l.fn.all.items ≡ front ++ into_iter_items l.one-iterator) × (l.ends.items ≡ lane_ends front)
      × (l.receipts.items ≡ receipts_in front);
}
