use Rattle.std.proofs.Common.{◌≡◌, ◌<◌, ℕ, Some, IsSome, slice_get}
use Rattle.sd_returned.specs.declared.asked.Asked.{Asked}
use Rattle.sd_returned.specs.declared.asked.Wanted.{Wanted}
use Rattle.sd_world.specs.World.{session_at}
use Rattle.sd_returned.proofs.alone.are_there.Given as goal

-- those of the first are there
abbrev pub invariant-loop-at : goal.invariant-loop-at
invariant-loop-at g l = (place : ℕ) (asked : Asked) (wanted : Wanted) → place < l.at → slice_get l.all place ≡ Some asked → asked.of ≡ Some wanted
    → IsSome (session_at wanted.key.id l.world.sessions)
