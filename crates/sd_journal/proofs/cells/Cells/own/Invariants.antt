use Rattle.std.proofs.Common.{◌≡◌, take}
use Rattle.std.specs.List.{flat_map, fold}
use Rattle.std.specs.Vec.{vec_items}
use Rattle.sd_journal.specs.Walk.{walk_of, walk_step}
use Rattle.sd_journal.proofs.WalkLemmas.{unwalked}
use Rattle.sd_journal.proofs.cells.Cells.own.Given as goal

abbrev pub invariant-loop-chunk : goal.invariant-loop-chunk
invariant-loop-chunk l = walk_of l.walked ≡ fold (walk_step l.self-inside.whole.items l.key) unwalked (flat_map vec_items (take l.chunk-index l.self-inside.full.items))
