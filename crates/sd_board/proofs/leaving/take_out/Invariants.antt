use Rattle.std.proofs.Common.{◌≡◌, ◌≤◌, length}
use Rattle.std.specs.Vec.{vec_capacity}
use Rattle.sd_board.specs.Slots.{ends_in}
use Rattle.sd_board.proofs.leaving.take_out.Given as goal

-- the ends of the slots so far are taken out; there is room for all
abbrev pub invariant-loop-slot : goal.invariant-loop-slot
invariant-loop-slot g l = record {
  out : l.ends.items ≡ ends_in l.yielded;
  room : length l.fn.slots.items ≤ vec_capacity l.ends;
}
