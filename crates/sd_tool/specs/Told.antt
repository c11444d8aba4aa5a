-- The lines of a run that are no reply's, without their newlines.
use Rattle.std.specs.Prelude.{ℕ, List, ◌++◌, Option, None, Some, codes}
use Rattle.std.specs.Fmt.{decimal}
use Rattle.sd_base.specs.Refusal.{refusal_text}
use Rattle.sd_base.specs.declared.refusal.Refusal.{Refusal}
use Rattle.sd_tool.specs.Settings.{misfit_word}
use Rattle.sd_tool.specs.declared.fits.Misfit.{Misfit}
use Rattle.sd_tool.specs.declared.told.Told.{Told}
use Rattle.sd_tool.specs.declared.told.Told.TheVariants as told

-- how many blocks were placed
abbrev pub drained_text : ℕ → List ℕ
drained_text placed = codes "ok drained " ++ decimal placed

-- a setting that doesn't go with the others
abbrev pub misfit_text : Misfit → List ℕ
misfit_text m = codes "fault " ++ misfit_word m ++ codes " range"

-- the input can't be read
abbrev pub no_input_text : List ℕ
no_input_text = codes "fault input"

-- a line
abbrev pub told_text : Told → List ℕ
told_text (told.Drained placed) = drained_text placed
told_text told.Restarted = codes "ok restarted"
told_text told.NoInput = no_input_text
told_text (told.Unfit m) = misfit_text m

-- a new world started, or why none did or what of its tail was refused
abbrev pub restarted_text : Option Refusal → List ℕ
restarted_text None = codes "ok restarted"
restarted_text (Some why) = refusal_text why
