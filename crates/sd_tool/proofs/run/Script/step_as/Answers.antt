use Rattle.std.proofs.Common.{rules, ◌≡◌, ◌∙◌}
use Rattle.sd_tool.specs.Doing.{step_event}
use Rattle.sd_tool.specs.Script.{script_view}
use Rattle.sd_tool.proofs.DoingLemmas.{gives_none}
use Rattle.sd_tool.proofs.run.Script.step_as.Goals as goal

pub returns-in_default : goal.returns-in_default
returns-in_default g c =
    let is : c.step_event.result ≡ step_event c.args.line c.args.self.now.moment = search rules in
    gives_none (λ d. g.D.Driver.meaning d) (step_event c.args.line c.args.self.now.moment) (script_view g.W.Write.contents c.args.self.now) (λ e due. c.in_default.not-Some e (is ∙ due))
