use Rattle.sd_scan.proofs.VolumeLemmas.{prints_cut, prints_ended}
use Rattle.sd_text.specs.Says.{said_view}
use Rattle.sd_scan.proofs.print.print_cut.Goals as goal

pub returns-then-report : goal.returns-then-report
returns-then-report g c = prints_ended c.args.told _ c.args.report.now c.if-report.true

pub returns : goal.returns
returns g c = prints_cut c.args.told (said_view g.W.Write.contents c.args.out.now) (said_view g.W.Write.contents c.line.new.self) c.args.report.now c.of.result c.if-report.false c.of.ensures c.line.ensures.says
