use Rattle.sd_core.specs.Listing.{AreRunning, StayListed}
use Rattle.sd_core.proofs.Tickets.{ListsFirst}
use Rattle.sd_core.proofs.listing.list_lanes.Given as goal

-- the holders of the lanes so far are listed
abbrev pub invariant-loop-lane : goal.invariant-loop-lane
invariant-loop-lane g l = record {
  running : AreRunning l.sessions l.tickets.items;
  stay : StayListed l.fn.tickets.items l.tickets.items;
  lists : ListsFirst l.sessions l.lanes l.lane-index l.tickets.items;
}
