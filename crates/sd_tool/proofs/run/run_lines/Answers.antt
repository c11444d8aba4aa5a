use Rattle.std.proofs.Common.{◌≡◌, ap₂, refl, false, subst}
use Rattle.sd_text.specs.Says.{SaidView, said_view}
use Rattle.sd_tool.specs.Run.{RunsScript}
use Rattle.sd_tool.proofs.run.run_lines.Goals as goal

pub returns : goal.returns
returns g c =
    let is : said_view g.W.Write.contents c.new.result ≡ record { written = g.W.Write.contents c.args.writer; failed = false } =
    ap₂ (λ w f. record { written = g.W.Write.contents w; failed = f }) c.new.ensures.writer c.new.ensures.failed in
    let Runs : SaidView → Type 0 = λ said. RunsScript g.row.Q.Denot g.W.Write.contents (λ d. g.D.Driver.meaning d) c.args.settings.values c.args.drivers.items (c.args.settings.first, c.args.settings.lines.bytes) said c.run_script-status.result in
    (c.run_script-status.result, refl, subst Runs is c.run_script-status.ensures)
