use Rattle.std.proofs.Common.{◌≡◌, ◌≤◌, ◌++◌, take, drop, length}
use Rattle.crossbeam_queue.specs.Passes.{view, IsPassOf}
use Rattle.sd_ruled.specs.Passes.{of_owner}
use Rattle.sd_ruled.proofs.split.turn_round.Given as goal

-- so many pieces have gone from the front to the back
abbrev pub invariant-loop-turned : goal.invariant-loop-turned
invariant-loop-turned g l = record {
  here : IsPassOf l.ring l.pass;
  is : view l.pass ≡ of_owner (view l.fn.pass).lanes (view l.fn.pass).taken (drop l._turned (view l.fn.pass).held ++ take l._turned (view l.fn.pass).held);
  most : l.times ≤ length (view l.fn.pass).held;
  room : length (view l.fn.pass).held ≤ l.ring.cap;
}
