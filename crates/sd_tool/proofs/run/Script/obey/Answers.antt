use Rattle.sd_tool.specs.Script.{script_view}
use Rattle.sd_tool.proofs.DoingLemmas.{acts_other}
use Rattle.sd_tool.proofs.run.Script.obey.Goals as goal

pub returns-in_default : goal.returns-in_default
returns-in_default g c =
    acts_other (λ d. g.D.Driver.meaning d) c.args.line (script_view g.W.Write.contents c.args.self) (script_view g.W.Write.contents c.acted.result) c.in_default.not-Read c.in_default.not-Again c.acted.ensures
