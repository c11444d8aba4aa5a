use Rattle.std.proofs.Common.{◌≡◌, ◌-◌, length, drop, Some}
use Rattle.sd_driver.specs.Shelf.{stable_bytes}
use Rattle.sd_memdrive.specs.ChangeLog.{undo}
use Rattle.sd_memdrive.proofs.stop.stable_before.Given as goal

-- the last changes are undone
abbrev pub invariant-loop-undone : goal.invariant-loop-undone
invariant-loop-undone l = l.bytes.items ≡ undo (drop (length l.later - l.undone) l.later) l.stored.name (stable_bytes (Some l.stored.held))
