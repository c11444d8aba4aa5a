use Rattle.std.proofs.Common.{◌≡◌, map, take}
use Rattle.sd_stations.specs.Shows.{shown}
use Rattle.sd_stations.proofs.status.shown_of.Given as goal

-- what is shown of the volumes so far
abbrev pub invariant-loop-volume : goal.invariant-loop-volume
invariant-loop-volume l = l.rows.items ≡ map shown (take l.volume-index l.volumes)
