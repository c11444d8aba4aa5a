use Rattle.std.proofs.Common.{take}
use Rattle.sd_core.specs.Conf.{AreStores}
use Rattle.sd_tool.proofs.making.stores_of.Given as goal

-- the stores so far
abbrev pub invariant-loop-drive : goal.invariant-loop-drive
invariant-loop-drive l = AreStores (take l.drive-index l.drives) l.stores.items
