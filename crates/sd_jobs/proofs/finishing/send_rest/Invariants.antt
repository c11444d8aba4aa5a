use Rattle.std.proofs.Common.{◌≡◌, []}
use Rattle.sd_line.specs.Goes.{GoesOn}
use Rattle.sd_jobs.proofs.finishing.send_rest.Given as goal

-- the part so far, which took no record
abbrev pub invariant-loop-turn : goal.invariant-loop-turn
invariant-loop-turn g l = record {
  goes : GoesOn l.fn.part [] l.part;
  no : l.part.seat.no ≡ l.line.no;
}
