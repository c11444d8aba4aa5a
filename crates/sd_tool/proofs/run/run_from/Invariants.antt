use Rattle.std.proofs.Common.{◌≡◌, length, List}
use Rattle.sd_script.specs.declared.line.Part.TheVariants.{Head}
use Rattle.sd_tool.specs.Run.{LineCame, Reaches}
use Rattle.sd_tool.specs.Script.{script_view}
use Rattle.sd_tool.proofs.run.run_from.Given as goal

-- the lines that came so far left what came
abbrev pub invariant-loop : goal.invariant-loop
invariant-loop g l =
    (later : List LineCame) × (length later ≡ l.counter)
    × Reaches g.W.Write.contents (λ d. g.D.Driver.meaning d) Head (l.fn.first, l.fn.lines.bytes) later (script_view g.W.Write.contents l.fn.script) l.came
