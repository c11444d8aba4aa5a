use Rattle.std.proofs.Common.{◌≡◌, ℕ, [], Some, slice_get}
use Rattle.std.specs.Vec.Iter.{into_iter_items}
use Rattle.sd_line.specs.Side.{SeatIs}
use Rattle.sd_lines.proofs.unused.ends_of.Given as goal

-- the seats that are left sent nothing
abbrev pub invariant-loop-seat : goal.invariant-loop-seat
invariant-loop-seat g l = record {
  can : (goal.iterator-loop-seat g).can_next l.seat-iterator;
  finite : (goal.iterator-loop-seat g).is_finite l.seat-iterator;
  each : (k : ℕ) (seat : SeatIs) → slice_get (into_iter_items l.seat-iterator) k ≡ Some seat → seat.seat.sent ≡ [];
}
