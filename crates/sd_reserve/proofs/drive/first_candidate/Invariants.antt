use Rattle.sd_reserve.specs.Reserve.{IsCandidate, Precedes}
use Rattle.sd_reserve.proofs.FirstLemmas.{BestBelow}
use Rattle.sd_reserve.proofs.drive.first_candidate.Given as goal

abbrev pub invariant-loop-place : goal.invariant-loop-place
invariant-loop-place l = BestBelow (IsCandidate l.pool l.media) (Precedes l.pool) l.drives l.place l.best
