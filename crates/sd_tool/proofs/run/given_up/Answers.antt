use Rattle.sd_text.specs.Says.{said_view}
use Rattle.sd_tool.proofs.DoingLemmas.{line_shown}
use Rattle.sd_tool.proofs.run.given_up.Goals as goal

pub returns-clause-says : goal.returns-clause-says
returns-clause-says g c =
    line_shown (g.T.Display.output c.args.text) (said_view g.W.Write.contents c.args.out) (said_view g.W.Write.contents c.line.new.self) _ c.line.ensures.says c.flush.ensures
