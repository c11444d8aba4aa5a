use Rattle.std.proofs.Common.{◌≡◌, map, take}
use Rattle.sd_returned.specs.Backs.{asked_of}
use Rattle.sd_returned.proofs.asked.ask_all.Given as goal

-- what is asked of the first of them
abbrev pub invariant-loop-at : goal.invariant-loop-at
invariant-loop-at g l = l.all.items ≡ map asked_of (take l.at l.ends)
