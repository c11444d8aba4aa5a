use Rattle.std.proofs.Common.{[]}
use Rattle.sd_line.specs.Goes.{GoesOn}
use Rattle.sd_stations.proofs.SendLemmas.{SentFor}
use Rattle.sd_stations.proofs.live.Live.add.Given as goal

-- the part so far, which took no record
abbrev pub invariant-loop-tried : goal.invariant-loop-tried
invariant-loop-tried g l = record {
  goes : GoesOn l.fn.self [] l.self;
  sent : SentFor l.rec l.fn.self.session l.self.session;
}
