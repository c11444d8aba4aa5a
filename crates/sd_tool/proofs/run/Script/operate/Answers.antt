use Rattle.std.proofs.Common.{rules, ◌≡◌, Some}
use Rattle.sd_tool.specs.Doing.{console_event}
use Rattle.sd_tool.specs.Script.{script_view}
use Rattle.sd_tool.proofs.DoingLemmas.{console_does}
use Rattle.sd_tool.proofs.run.Script.operate.Goals as goal

pub returns-in-Some : goal.returns-in-Some
returns-in-Some g c =
    let is : console_event c.args.command c.args.self.now.moment ≡ Some c.in-Some.event = search rules in
    console_does (λ d. g.D.Driver.meaning d) c.args.command c.in-Some.event (script_view g.W.Write.contents c.args.self.now) (script_view g.W.Write.contents c.step.new.self) is c.step.ensures
