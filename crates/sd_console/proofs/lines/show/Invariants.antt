use Rattle.std.proofs.Common.{◌≡◌, ◌++◌, length, map}
use Rattle.sd_text.specs.Lines.{line}
use Rattle.sd_console.specs.Lines.{lines_in}
use Rattle.sd_console.proofs.lines.show.Given as goal

-- the packets so far, and those of the lines that are left, are the text's
abbrev pub invariant-loop-line : goal.invariant-loop-line
invariant-loop-line l = l.lines.items ++ map line l.rest ≡ lines_in l.fn.text

abbrev pub decreases-loop-line : goal.decreases-loop-line
decreases-loop-line l = length l.rest
