use Rattle.std.proofs.Common.{◌≡◌, ◌++◌, map, take, drop}
use Rattle.sd_world.specs.Drives.{purged_if_on}
use Rattle.sd_events.proofs.purging.purge_sessions.Given as goal

abbrev pub invariant-loop-place : goal.invariant-loop-place
invariant-loop-place g l = record {
  sessions : l.sessions ≡ map (purged_if_on l.drive l.name l.at.journal) (take l.place l.fn.sessions) ++ drop l.place l.fn.sessions;
}
