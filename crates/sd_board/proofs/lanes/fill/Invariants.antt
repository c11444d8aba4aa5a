use Rattle.std.proofs.Common.{◌≡◌, ◌≤◌, length, map}
use Rattle.std.specs.Vec.{vec_capacity}
use Rattle.sd_board.specs.Slots.{new_slot}
use Rattle.sd_board.proofs.lanes.fill.Given as goal

-- the ends so far lie in their slots; there is room for all
abbrev pub invariant-loop-end : goal.invariant-loop-end
invariant-loop-end g l = record {
  lie : l.slots.items ≡ map new_slot l.yielded;
  room : length l.fn.ends.items ≤ vec_capacity l.slots;
}
