use Rattle.std.proofs.Common.{◌≡◌, ◌++◌, map, take}
use Rattle.sd_core.specs.View.{volume_line}
use Rattle.sd_core.proofs.status.add_volumes.Given as goal

-- a line for each volume so far
abbrev pub invariant-loop-volume : goal.invariant-loop-volume
invariant-loop-volume l = l.lines.items ≡ l.fn.lines.items ++ map volume_line (take l.volume-index l.volumes)
