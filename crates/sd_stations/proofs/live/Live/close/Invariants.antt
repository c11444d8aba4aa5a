use Rattle.std.proofs.Common.{[]}
use Rattle.sd_line.specs.Goes.{GoesOn}
use Rattle.sd_stations.proofs.CloseLemmas.{SentAll}
use Rattle.sd_stations.proofs.live.Live.close.Given as goal

-- the part so far, which took no record
abbrev pub invariant-loop-turn : goal.invariant-loop-turn
invariant-loop-turn g l = record {
  goes : GoesOn l.fn.self [] l.self;
  sent : SentAll l.fn.self.session l.self.session;
}
