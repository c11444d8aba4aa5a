use Rattle.std.proofs.Common.{◌≡◌, take}
use Rattle.arrayvec.specs.ArrayVec.{array_vec_len}
use Rattle.sd_world.specs.World.{free_lanes}
use Rattle.sd_events.proofs.lanes.free_lanes.Given as goal

-- each lane so far, and as many answers
abbrev pub invariant-loop-slot : goal.invariant-loop-slot
invariant-loop-slot g l = record {
  told : l.free.items ≡ free_lanes l.sessions l.drive.journal (take l.slot-index l.lanes);
  count : array_vec_len l.free ≡ l.slot-index;
}
