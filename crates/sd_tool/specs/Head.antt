-- The head of a script: its settings, and the first line that is none.
use Rattle.std.specs.Prelude.{◌≡◌, ◌⊎◌, ℕ, List, [], ◌∷◌, ◌++◌}
use Rattle.sd_script.specs.Grammar.{HasForm}
use Rattle.sd_script.specs.declared.line.ScriptLine.TheVariants.{Set}
use Rattle.sd_script.specs.declared.line.Setting.{Setting}
use Rattle.sd_tool.specs.declared.lines.Next.{Next}
use Rattle.sd_tool.specs.declared.lines.Next.TheVariants as next
use Rattle.sd_tool.specs.Lines.{ComesFirst, LinesView, came_with}
use Rattle.sd_tool.specs.Settings.{AreSettings, IsOther, ValuesView, usual_values, values_after}

-- after these lines came one that is no setting, or none; or there was no memory for the setting that came
abbrev pub EndsHead : List (List ℕ) → LinesView → Next → Type 0
EndsHead heads lines first =
    ((lines.came ≡ came_with first heads lines.bytes) × (first ≡ next.Line → IsOther lines.bytes))
    ⊎ ((first ≡ next.NoMemory) × (lines.came ≡ heads ++ lines.bytes ∷ []) × (s : Setting) × HasForm lines.bytes (Set s))

-- The values are those of the settings that came first, folded in order, and what came after them is the first other
-- line.
pub record IsHead (values : ValuesView) (lines : LinesView) (first : Next) : Type 0 where
  pub heads : List (List ℕ)
  pub settings : List Setting
  pub are_settings : AreSettings heads settings
  pub values_are : values ≡ values_after usual_values settings
  pub ends : EndsHead heads lines first

-- Of an input that is known: the line that came first is its first one; or, if no line came, what came is what comes
-- first of it.
abbrev pub BeginsWith : List ℕ → List (List ℕ) → List ℕ → Next → Type 0
BeginsWith input [] bytes first = ComesFirst input first bytes
BeginsWith input (line ∷ later) bytes first = ComesFirst input next.Line line
