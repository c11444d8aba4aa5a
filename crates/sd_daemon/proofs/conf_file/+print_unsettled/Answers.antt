use Rattle.sd_text.specs.Says.{said_view}
use Rattle.sd_daemon.proofs.ServeLemmas.{says_settle}
use Rattle.sd_daemon.proofs.conf_file.+print_unsettled.Goals as goal

pub returns-in-Some : goal.returns-in-Some
returns-in-Some g t c =
    says_settle c.args.unsettled.now c.in-Some.front.now c.in-Some.last.now
    (said_view g.W.Write.contents c.args.out.now) (said_view g.W.Write.contents c.print_unsettled.new.out) (said_view g.W.Write.contents c.line.new.self)
    c.in-Some.ensures.cases.0 c.print_unsettled.ensures (rw c.get.ensures.value at c.line.ensures.says)
