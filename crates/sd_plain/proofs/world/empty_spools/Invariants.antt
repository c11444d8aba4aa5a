use Rattle.std.proofs.Common.{◌≡◌, length}
use Rattle.sd_plain.proofs.world.empty_spools.Given as goal

-- as many as lanes were counted
abbrev pub invariant-loop-lane : goal.invariant-loop-lane
invariant-loop-lane l = length l.spools.items ≡ l._lane
