use Rattle.sd_hub.proofs.Claims.{ClaimedTo}
use Rattle.sd_hub.proofs.claiming.claim_all.Given as goal

-- the names of the volumes so far are claimed
abbrev pub invariant-loop-volume : goal.invariant-loop-volume
invariant-loop-volume l = ClaimedTo l.volumes l.volume-index l.desk
