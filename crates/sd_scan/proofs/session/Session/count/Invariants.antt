use Rattle.std.proofs.Common.{length}
use Rattle.sd_scan.proofs.SessionLemmas.{Counted}
use Rattle.sd_scan.proofs.session.Session.count.Given as goal

abbrev pub invariant-loop-rec : goal.invariant-loop-rec
invariant-loop-rec l = Counted l.initial.self l.self

abbrev pub decreases-loop-rec : goal.decreases-loop-rec
decreases-loop-rec l = length l.self.unpacker.ready
