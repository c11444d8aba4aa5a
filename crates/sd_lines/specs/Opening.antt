-- A prepared session gets its number.
use Rattle.std.specs.Prelude.{◌≡◌, ℕ}
use Rattle.sd_line.specs.Parts.{PreparedIs}

-- the prepared session under this number
abbrev pub IsNumbered : ℕ → PreparedIs → PreparedIs → Type 0
IsNumbered ticket old new = new ≡ record old { opening = record old.opening { key = record old.opening.key { id = ticket } } }
