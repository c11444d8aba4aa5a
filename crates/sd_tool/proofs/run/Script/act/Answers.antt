use Rattle.std.proofs.Common.{rules, refl}
use Rattle.sd_tool.specs.Script.{script_view}
use Rattle.sd_tool.proofs.DoingLemmas.{acts_at}
use Rattle.sd_tool.proofs.run.Script.act.Goals as goal

pub returns-in-At : goal.returns-in-At
returns-in-At g c =
    acts_at (λ d. g.D.Driver.meaning d) c.args.line c.in-At.moment (script_view g.W.Write.contents c.args.self.now) _ c.in-At.is refl (search rules) refl refl
