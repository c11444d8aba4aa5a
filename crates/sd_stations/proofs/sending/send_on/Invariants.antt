use Rattle.std.proofs.Common.{◌≡◌, []}
use Rattle.sd_line.specs.Goes.{GoesOn}
use Rattle.sd_stations.specs.Sends.{SendsOn}
use Rattle.sd_stations.proofs.sending.send_on.Given as goal

-- the part so far, which took no record
abbrev pub invariant-loop-tried : goal.invariant-loop-tried
invariant-loop-tried g l = record {
  goes : GoesOn l.fn.part [] l.part;
  sends : SendsOn l.fn.part.session l.part.session;
  no : l.part.seat.no ≡ l.station.no;
}
