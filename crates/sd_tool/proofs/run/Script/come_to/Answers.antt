use Rattle.std.proofs.Common.{sym, subst}
use Rattle.sd_script.specs.Grammar.{IsWithin}
use Rattle.sd_script.specs.declared.line.ScriptLine.{ScriptLine}
use Rattle.sd_tool.specs.Run.{LineComes}
use Rattle.sd_tool.specs.Script.{script_view}
use Rattle.sd_tool.proofs.RunLemmas.{other_comes, restart_within}
use Rattle.sd_tool.proofs.run.Script.come_to.Goals as goal

pub restarted-requires-clause-time_least : goal.restarted-requires-clause-time_least
restarted-requires-clause-time_least g c κs within =
    (restart_within c.in-Restart.time c.in-Restart.tail (subst IsWithin c.in-Restart.is c.requires)).0

pub restarted-requires-clause-time_most : goal.restarted-requires-clause-time_most
restarted-requires-clause-time_most g c κs within =
    (restart_within c.in-Restart.time c.in-Restart.tail (subst IsWithin c.in-Restart.is c.requires)).1

pub returns-in-Restart : goal.returns-in-Restart
returns-in-Restart g c =
    let Does : ScriptLine → Type 0 = λ l. LineComes g.W.Write.contents (λ d. g.D.Driver.meaning d) l (script_view g.W.Write.contents c.args.self) c.restarted.result in
    subst Does (sym c.in-Restart.is) c.restarted.ensures

pub returns-in_default : goal.returns-in_default
returns-in_default g c =
    other_comes g.W.Write.contents (λ d. g.D.Driver.meaning d) c.args.line (script_view g.W.Write.contents c.args.self) (script_view g.W.Write.contents c.obey.result) c.shown.result
    c.in_default.not-Restart c.obey.ensures c.shown.ensures
