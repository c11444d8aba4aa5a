use Rattle.std.proofs.Common.{◌≡◌, ◌≤◌, length, map}
use Rattle.std.specs.Vec.{vec_capacity}
use Rattle.sd_hub.specs.Worlds.{lane_sessions, lane_view}
use Rattle.sd_hub.proofs.leaving.leave_lanes.Given as goal

-- the sessions of the lanes so far are taken out; there is room for all
abbrev pub invariant-loop-lane : goal.invariant-loop-lane
invariant-loop-lane g l = record {
  told : l.told.items ≡ lane_sessions l.yielded;
  slots : l.slots.items ≡ map lane_view l.yielded;
  told_room : length (lane_sessions l.fn.lanes.items) ≤ vec_capacity l.told;
  slots_room : length l.fn.lanes.items ≤ vec_capacity l.slots;
}
