use Rattle.sd_text.proofs.SaysLemmas.{line_written}
use Rattle.sd_text.proofs.line.line_of.Goals as goal

pub returns-in-Ok : goal.returns-in-Ok
returns-in-Ok g c = line_written _ (λ s. s.bytes) (λ w bs v took. took) _ _ (g.D.Display.output c.args.text) c.new-said.ensures c.in-Ok.ensures.writes
