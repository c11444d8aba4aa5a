use Rattle.std.proofs.Common.{◌≡◌, length}
use Rattle.sd_tool.proofs.making.empty_stores.Given as goal

-- as many as were counted
abbrev pub invariant-loop : goal.invariant-loop
invariant-loop l = length l.stores.items ≡ l.counter
