use Rattle.std.proofs.Common.{◌≡◌, take}
use Rattle.std.specs.List.{filter_map}
use Rattle.sd_memdrive.specs.ChangeLog.{left_volume}
use Rattle.sd_memdrive.proofs.stop.left_all.Given as goal

-- what is left of the volumes so far
abbrev pub invariant-loop-stored : goal.invariant-loop-stored
invariant-loop-stored l = l.left.items ≡ filter_map (left_volume l.later l.tail) (take l.stored-index l.volumes)
