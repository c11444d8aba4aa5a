use Rattle.std.proofs.Common.{◌≡◌, take}
use Rattle.sd_core.specs.View.{volume_lines}
use Rattle.sd_core.proofs.status.show_volumes.Given as goal

-- the lines of the volumes of the drives so far
abbrev pub invariant-loop-bay : goal.invariant-loop-bay
invariant-loop-bay g l = l.lines.items ≡ volume_lines (take l.bay-index l.bays)
