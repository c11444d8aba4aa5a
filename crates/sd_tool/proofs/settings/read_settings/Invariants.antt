use Rattle.std.proofs.Common.{◌≡◌, List, length}
use Rattle.sd_script.specs.declared.line.Setting.{Setting}
use Rattle.sd_tool.specs.Settings.{AreSettings, usual_values, values_after}
use Rattle.sd_tool.proofs.HeadLemmas.{Began}
use Rattle.sd_tool.proofs.settings.read_settings.Given as goal

-- all lines that came are settings, and the values are theirs; the first of them came first of the input
abbrev pub invariant-loop : goal.invariant-loop
invariant-loop g l =
    ((ss : List Setting) × AreSettings l.lines.came ss × (l.values ≡ values_after usual_values ss))
    × (length l.lines.came ≡ l.counter)
    × Began (g.R.Read.remaining l.fn.reader) (g.R.Read.remaining l.reader) l.lines.came
