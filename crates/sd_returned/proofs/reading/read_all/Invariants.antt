use Rattle.std.proofs.Common.{◌≡◌, ◌≤◌, ◌++◌, List, length}
use Rattle.std.specs.List.{AllZip}
use Rattle.std.specs.Vec.{vec_capacity}
use Rattle.std.specs.Vec.Iter.{into_iter_items}
use Rattle.sd_memdrive.specs.Drive.{meaning_of}
use Rattle.sd_returned.specs.Backs.{Answers}
use Rattle.sd_returned.specs.Listed.{KeepsLists}
use Rattle.sd_returned.specs.declared.asked.Asked.{Asked}
use Rattle.sd_returned.proofs.reading.read_all.Given as goal

-- the answers so far, what is asked still, and that every list is there yet
abbrev pub invariant-loop-asked : goal.invariant-loop-asked
invariant-loop-asked g l = record {
  can : (goal.iterator-loop-asked g).can_next l.asked-iterator;
  finite : (goal.iterator-loop-asked g).is_finite l.asked-iterator;
  each : (front : List Asked) × (l.fn.all.items ≡ front ++ into_iter_items l.asked-iterator) × AllZip (Answers l.fn.world) front l.backs.items;
  room : length l.fn.all.items ≤ vec_capacity l.backs;
  keeps : KeepsLists (λ d. meaning_of d) l.fn.world l.world;
}
