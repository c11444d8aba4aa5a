use Rattle.std.proofs.Common.{◌≡◌, None, take}
use Rattle.std.specs.Option.{option_copied}
use Rattle.sd_tool.specs.Printed.{last_printed}
use Rattle.sd_tool.proofs.printed.last_of.Given as goal

-- those so far
abbrev pub invariant-loop-closed : goal.invariant-loop-closed
invariant-loop-closed l = option_copied l.last ≡ last_printed l.fn.key None (take l.closed-index l.sessions)
