use Rattle.sd_lines.specs.Opening.{IsNumbered}
use Rattle.sd_lines.proofs.opening.number.Given as goal

-- the session is prepared for the number that is drawn next
abbrev pub invariant-loop-draw : goal.invariant-loop-draw
invariant-loop-draw g l = record { numbered : IsNumbered l.ticket l.fn.prepared l.prepared }
