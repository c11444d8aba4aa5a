use Rattle.std.proofs.Common.{◌≡◌, map, take}
use Rattle.sd_journal.specs.Noted.{placement_of}
use Rattle.sd_journal.proofs.cells.placements_of.Given as goal

abbrev pub invariant-loop-noted : goal.invariant-loop-noted
invariant-loop-noted l = l.all.items ≡ map (placement_of l.names.names) (take l.noted-index l.own)
