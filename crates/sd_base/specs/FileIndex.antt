-- The FileIndexes of the records in bodies, of which 0 is none.
use Rattle.std.specs.Prelude.{ℕ, zero, suc}

-- the first of two numbers that is not 0, if one is
abbrev pub first_nonzero : ℕ → ℕ → ℕ
first_nonzero zero y = y
first_nonzero (suc x) y = suc x
