use Rattle.std.proofs.Common.{◌≡◌, ◌+◌, length}
use Rattle.sd_tool.specs.MemDrives.{AreSetUp}
use Rattle.sd_tool.proofs.drives.memory_drives.Given as goal

-- the drives so far
abbrev pub invariant-loop-number : goal.invariant-loop-number
invariant-loop-number l = record {
  count : length l.drives.items + 1 ≡ l.number;
  set_up : AreSetUp l.values l.drives.items;
}
