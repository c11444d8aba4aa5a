use Rattle.std.proofs.Common.{◌≡◌, ◌≤◌, length}
use Rattle.std.specs.Vec.{vec_capacity}
use Rattle.sd_line.specs.Side.{seats_at}
use Rattle.sd_line.proofs.line.name_seats.Given as goal

-- the seats so far have the number
abbrev pub invariant-loop-seat : goal.invariant-loop-seat
invariant-loop-seat g l = record {
  can : (goal.iterator-loop-seat g).can_next l.seat-iterator;
  finite : (goal.iterator-loop-seat g).is_finite l.seat-iterator;
  named : l.seats.items ≡ seats_at l.no l.yielded;
  own : l.no ≡ l.fn.no;
  room : length l.fn.lanes.items ≤ vec_capacity l.seats;
}
