use Rattle.std.proofs.Common.{◌≡◌, take}
use Rattle.sd_hub.proofs.receipts.are_same.Given as goal

-- the spans so far are the same
abbrev pub invariant-loop-at : goal.invariant-loop-at
invariant-loop-at l = take l.at l.ones ≡ take l.at l.others
