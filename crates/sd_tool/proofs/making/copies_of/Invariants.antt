use Rattle.std.proofs.Common.{◌≡◌, take}
use Rattle.sd_tool.proofs.making.copies_of.Given as goal

-- the copies so far
abbrev pub invariant-loop-drive : goal.invariant-loop-drive
invariant-loop-drive l = l.copies.items ≡ take l.drive-index l.drives
