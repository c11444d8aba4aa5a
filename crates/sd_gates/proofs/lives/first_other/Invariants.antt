use Rattle.std.proofs.Common.{◌≡◌}
use Rattle.sd_gates.proofs.lives.first_other.Given as goal

-- the part is of the line
abbrev pub invariant-loop-at : goal.invariant-loop-at
invariant-loop-at g l = record { no : l.part.seat.no ≡ l.line.no }
