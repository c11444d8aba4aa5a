use Rattle.std.proofs.Common.{◌≡◌, ◌++◌, List}
use Rattle.std.specs.Vec.Iter.{into_iter_items}
use Rattle.sd_line.specs.Side.{SeatIs}
use Rattle.sd_returned.proofs.trial.make_jobs.Given as goal

-- the seats that are left are some of those handed in
abbrev pub invariant-loop-seat : goal.invariant-loop-seat
invariant-loop-seat g l = record {
  can : (goal.iterator-loop-seat g).can_next l.seat-iterator;
  finite : (goal.iterator-loop-seat g).is_finite l.seat-iterator;
  each : (front : List SeatIs) × (l.fn.seats.items ≡ front ++ into_iter_items l.seat-iterator);
}
