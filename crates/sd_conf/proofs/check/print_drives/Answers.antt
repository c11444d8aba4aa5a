use Rattle.std.proofs.Common.{◌+◌, ap, arith}
use Rattle.sd_text.specs.Says.{said_view}
use Rattle.sd_conf.proofs.CheckLemmas.{says_drive}
use Rattle.sd_conf.proofs.check.print_drives.Goals as goal

pub loop-drive-preserved : goal.loop-drive-preserved
loop-drive-preserved g c = record {
  number = omega (arith, c.loop-drive.invariant.number);
  says = says_drive c.args.drives.now c.loop-drive.drive-index _ c.drive-item.result (said_view g.W.Write.contents c.args.out.now) (said_view g.W.Write.contents c.loop-drive.out) (said_view g.W.Write.contents c.print_drive.new.out)
      c.loop-drive-test.true c.drive-item.is (ap (λ n. n + 1) c.loop-drive.invariant.number) c.loop-drive.invariant.says c.print_drive.ensures;
}
