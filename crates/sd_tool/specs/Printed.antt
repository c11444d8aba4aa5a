-- The closed sessions whose JobMedia texts were printed.
use Rattle.std.specs.Prelude.{Option, Some, List, [], ◌∷◌, if◌then◌else◌}
use Rattle.sd_base.specs.Key.{is_key}
use Rattle.sd_base.specs.declared.number.SessionKey.{SessionKey}
use Rattle.sd_tool.specs.declared.printed.Closed.{Closed}

-- what was printed last of a session, if anything was; else this
abbrev pub last_printed : SessionKey → Option Closed → List Closed → Option Closed
last_printed key before [] = before
last_printed key before (c ∷ cs) = last_printed key (if is_key key c.key then Some c else before) cs
