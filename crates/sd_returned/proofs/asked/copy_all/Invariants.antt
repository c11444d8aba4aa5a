use Rattle.std.proofs.Common.{◌≡◌, take}
use Rattle.sd_returned.proofs.asked.copy_all.Given as goal

-- the spans so far
abbrev pub invariant-loop-at : goal.invariant-loop-at
invariant-loop-at l = l.spans.items ≡ take l.at l.own
