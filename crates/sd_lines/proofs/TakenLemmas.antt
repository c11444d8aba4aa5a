-- The records that were taken, after one more exchange.
use Rattle.std.proofs.Common.{◌≡◌, refl, List, [], ◌∷◌, ◌++◌}
use Rattle.sd_append.specs.Port.{Exchange}
use Rattle.sd_base.specs.Record.{Record}
use Rattle.sd_lines.specs.Taken.{taken_behind, taken_from}

pub taken_more : (so_far : List Record) (xs : List Exchange) (x : Exchange) → taken_from so_far (xs ++ x ∷ []) ≡ taken_behind x (taken_from so_far xs)
taken_more so_far [] x = refl
taken_more so_far (y ∷ ys) x = taken_more (taken_behind y so_far) ys x
