use Rattle.sd_scan.proofs.VolumeLemmas.{prints_broken, prints_unbroken}
use Rattle.sd_text.specs.Says.{said_view}
use Rattle.sd_scan.proofs.print.print_broken.Goals as goal

pub returns-then-report : goal.returns-then-report
returns-then-report g c = prints_broken c.args.told (said_view g.W.Write.contents c.args.out.now) (said_view g.W.Write.contents c.line.new.self) c.args.report.now c.if-report.true c.line.ensures.says

pub returns-else-report : goal.returns-else-report
returns-else-report g c = prints_unbroken c.args.told _ c.args.report.now c.if-report.false
