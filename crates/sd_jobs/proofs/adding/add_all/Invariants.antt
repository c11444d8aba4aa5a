use Rattle.std.proofs.Common.{◌≡◌, take}
use Rattle.sd_line.specs.Goes.{GoesOn}
use Rattle.sd_jobs.proofs.adding.add_all.Given as goal

-- the records so far were taken
abbrev pub invariant-loop-at : goal.invariant-loop-at
invariant-loop-at g l = record {
  goes : GoesOn l.fn.part (take l.at l.recs) l.part;
  no : l.part.seat.no ≡ l.line.no;
}
