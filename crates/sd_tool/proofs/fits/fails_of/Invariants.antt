use Rattle.std.proofs.Common.{◌≡◌, take}
use Rattle.sd_tool.specs.Settings.{fails_for}
use Rattle.sd_tool.proofs.fits.fails_of.Given as goal

-- the lines so far
abbrev pub invariant-loop-given : goal.invariant-loop-given
invariant-loop-given l = l.plan.items ≡ fails_for l.fn.drive (take l.given-index l.fails)
