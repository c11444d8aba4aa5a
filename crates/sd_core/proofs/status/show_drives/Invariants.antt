use Rattle.std.proofs.Common.{◌≡◌, length, take, vec_len}
use Rattle.std.specs.Vec.{vec_capacity}
use Rattle.sd_core.specs.View.{drive_lines}
use Rattle.sd_core.proofs.status.show_drives.Given as goal

-- a line for each drive so far
abbrev pub invariant-loop-bay : goal.invariant-loop-bay
invariant-loop-bay g l = record {
  told : l.lines.items ≡ drive_lines l.sessions 0 (take l.bay-index l.bays);
  long : vec_len l.lines ≡ l.bay-index;
  room : vec_capacity l.lines ≡ length l.bays;
}
