-- Values that were seen one after another.
use Rattle.std.specs.Prelude.{List, [], Option, Some, None}

-- the values that were seen, if any were
abbrev pub seen_of : {T : Type 0} → Option (List T) → List T
seen_of None = []
seen_of (Some seen) = seen
