use Rattle.std.proofs.Common.{◌≡◌, length}
use Rattle.sd_tool.proofs.MakingLemmas.{zip_more}
use Rattle.sd_tool.proofs.making.stores_of.Goals as goal

pub loop-drive-preserved : goal.loop-drive-preserved
loop-drive-preserved c =
    zip_more (λ d s. length s.items ≡ d.1) c.args.drives.now c.loop-drive.drive-index c.drive-item.result c.loop-drive.stores.items c.push.new.self.items c.in_ok-empty_stores.field-0
    c.drive-item.is c.loop-drive-test.true c.in_ok-push.ensures.items c.loop-drive.invariant c.in_ok-empty_stores.ensures
