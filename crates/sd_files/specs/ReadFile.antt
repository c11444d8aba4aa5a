-- A session that is read back from files.
use Rattle.std.specs.Prelude.{ℕ, List, Option}
use Rattle.sd_driver.specs.Meaning.{Meaning}
use Rattle.sd_text.specs.Says.{SaidView}
use Rattle.sd_files.specs.Extract.{PrintsReading}

-- The text of a file is read, by what it holds if that is known, and its session from the device of a folder, by what
-- that is as it is made. A file that can't be opened is reported as an input that fails, and being out of memory for
-- the device as being out of memory for the text.
abbrev pub ReadsFiles : Option (List ℕ) → Meaning → SaidView → SaidView → ℕ → Type 0
ReadsFiles text device said says status = (after : Meaning) × PrintsReading text device after said says status
