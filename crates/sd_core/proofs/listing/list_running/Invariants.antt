use Rattle.sd_core.specs.Listing.{AreRunning}
use Rattle.sd_core.proofs.Tickets.{ListsBays}
use Rattle.sd_core.proofs.listing.list_running.Given as goal

-- the holders of the lanes of the bays so far are listed
abbrev pub invariant-loop-bay : goal.invariant-loop-bay
invariant-loop-bay g l = record {
  running : AreRunning l.sessions l.tickets.items;
  lists : ListsBays l.sessions l.bays l.bay-index l.tickets.items;
}
