use Rattle.std.proofs.Common.{◌≡◌, take}
use Rattle.std.specs.List.{fold}
use Rattle.sd_journal.specs.Walk.{walk_of, walk_step}
use Rattle.sd_journal.proofs.cells.walk.Given as goal

abbrev pub invariant-loop-cell : goal.invariant-loop-cell
invariant-loop-cell l = walk_of l.walked ≡ fold (walk_step l.whole l.key) (walk_of l.fn.walked) (take l.cell-index l.cells)
