use Rattle.std.proofs.Common.{◌≡◌, take}
use Rattle.sd_tool.specs.Settings.{given_capacity}
use Rattle.sd_tool.proofs.fits.given_capacity.Given as goal

-- the lines so far
abbrev pub invariant-loop-given : goal.invariant-loop-given
invariant-loop-given l = l.bytes ≡ given_capacity l.fn.drive 1048576 (take l.given-index l.capacities)
