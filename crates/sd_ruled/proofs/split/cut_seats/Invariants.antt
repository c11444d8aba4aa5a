use Rattle.std.proofs.Common.{◌≡◌, ◌≤◌, true, vec_len}
use Rattle.std.specs.Vec.{vec_capacity}
use Rattle.crossbeam_queue.specs.Passes.{view, IsPassOf}
use Rattle.sd_base.specs.Limits.{most_lanes}
use Rattle.sd_ruled.specs.Seats.{seats_of}
use Rattle.sd_ruled.proofs.split.cut_seats.Given as goal

-- the first lanes have seats of their own
abbrev pub invariant-loop-at : goal.invariant-loop-at
invariant-loop-at l = record {
  same : l.pass.table_id ≡ l.fn.pass.table_id;
  here : IsPassOf l.ring l.pass;
  takes : (view l.pass).takes ≡ true;
  away : (view l.pass).away ≡ l.at;
  lanes : (view l.pass).lanes ≡ l.lanes;
  most : l.lanes ≤ most_lanes;
  taken : (view l.pass).taken ≡ (view l.fn.pass).taken;
  before : (view l.pass).before ≡ (view l.fn.pass).before;
  seats : l.seats.items ≡ seats_of l.fn.pass.table_id l.lanes (view l.fn.pass).before l.at;
  long : vec_len l.seats ≡ l.at;
  room : l.lanes ≤ vec_capacity l.seats;
}
