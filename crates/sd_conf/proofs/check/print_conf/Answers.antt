use Rattle.sd_text.specs.Says.{said_view}
use Rattle.sd_conf.proofs.CheckLemmas.{says_conf}
use Rattle.sd_conf.proofs.check.print_conf.Goals as goal

pub returns : goal.returns
returns g c =
    says_conf c.args.conf.now c.as_slice.result.now c.copy.result _ (said_view g.W.Write.contents c.line.new.self) (said_view g.W.Write.contents c.line-2.new.self) (said_view g.W.Write.contents c.line-3.new.self)
    (said_view g.W.Write.contents c.line-4.new.self) (said_view g.W.Write.contents c.line-5.new.self) (said_view g.W.Write.contents c.line-6.new.self) _ c.as_slice.ensures c.copy.ensures c.line.ensures.says c.line-2.ensures.says c.line-3.ensures.says c.line-4.ensures.says c.line-5.ensures.says c.line-6.ensures.says c.print_drives.ensures
