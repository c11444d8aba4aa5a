use Rattle.std.proofs.Common.{◌≡◌, ◌<◌, ℕ, Some, slice_get}
use Rattle.sd_board.specs.Slots.{IsNewAt}
use Rattle.sd_line.specs.Ends.{EndIs}
use Rattle.sd_board.proofs.adding.are_new.Given as goal

-- the ends so far are such
abbrev pub invariant-loop-at : goal.invariant-loop-at
invariant-loop-at g l = (k : ℕ) (e : EndIs) → k < l.at → slice_get l.ends k ≡ Some e → IsNewAt l.no k e
