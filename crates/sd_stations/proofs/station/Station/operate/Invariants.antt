use Rattle.std.proofs.Common.{◌≡◌}
use Rattle.sd_stations.proofs.station.Station.operate.Given as goal

-- the event is the one that was given
abbrev pub invariant-loop-look : goal.invariant-loop-look
invariant-loop-look g l = record { same : l.event ≡ l.fn.event }
