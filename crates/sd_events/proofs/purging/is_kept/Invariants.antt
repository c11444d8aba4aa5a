use Rattle.std.proofs.Common.{◌≡◌, false, take}
use Rattle.sd_world.specs.Drives.{is_kept}
use Rattle.sd_events.proofs.purging.is_kept.Given as goal

abbrev pub invariant-loop-entry : goal.invariant-loop-entry
invariant-loop-entry g l = record { none : is_kept l.drive l.name l.at.journal (take l.entry-index l.sessions) ≡ false }
