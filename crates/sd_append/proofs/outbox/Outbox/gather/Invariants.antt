use Rattle.std.proofs.Common.{◌≡◌, List, ◌++◌, ℕ, length}
use Rattle.sd_append.specs.Out.{PutsOut, out_view}
use Rattle.sd_append.proofs.outbox.Outbox.gather.Given as goal

abbrev pub invariant-loop-rest : goal.invariant-loop-rest
invariant-loop-rest g l =
    (front : List ℕ) × (l.bytes ≡ front ++ l.rest)
    × PutsOut (out_view g.W.Write.contents l.initial.self) (out_view g.W.Write.contents l.self) front

abbrev pub decreases-loop-rest : goal.decreases-loop-rest
decreases-loop-rest g l = length l.rest
