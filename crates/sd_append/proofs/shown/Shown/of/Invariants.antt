use Rattle.std.proofs.Common.{◌≡◌, take}
use Rattle.sd_append.proofs.shown.Shown.of.Given as goal

abbrev pub invariant-loop-x : goal.invariant-loop-x
invariant-loop-x g l = l.shown ≡ take l.x-index l.xs
