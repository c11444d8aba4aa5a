use Rattle.std.proofs.Common.{◌≡◌, []}
use Rattle.crossbeam_queue.specs.Passes.{view, IsPassOf}
use Rattle.sd_ruled.specs.Passes.{of_owner}
use Rattle.sd_ruled.proofs.ruled.open_lanes.Given as goal

-- so many lanes are open
abbrev pub invariant-loop-opened : goal.invariant-loop-opened
invariant-loop-opened l = record {
  here : IsPassOf l.ring l.pass;
  is : view l.pass ≡ of_owner l._opened [] [];
}
