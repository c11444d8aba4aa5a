use Rattle.std.proofs.Common.{◌≡◌, ◌<◌, ◌≤◌, ℕ, vec_len}
use Rattle.std.specs.Vec.{vec_capacity}
use Rattle.sd_hub.specs.Settles.{AreTaken, end_at}
use Rattle.sd_hub.proofs.gather.gather.Given as goal

-- The ends of the lanes so far are taken apart, and those of the lanes after them are found as before.
abbrev pub invariant-loop-at : goal.invariant-loop-at
invariant-loop-at g l = record {
  taken : AreTaken g.N.Naming.table g.N.Naming.time l.no l.at l.fn.ends.items l.seats.items l.settled.items;
  rest : (other : ℕ) → l.at < other → end_at l.no other l.ends.items ≡ end_at l.no other l.fn.ends.items;
  long : (vec_len l.seats ≡ l.at) × (vec_len l.settled ≡ l.at);
  room : (l.lanes ≤ vec_capacity l.seats) × (l.lanes ≤ vec_capacity l.settled);
}
