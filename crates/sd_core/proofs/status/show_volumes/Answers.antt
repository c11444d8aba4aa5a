use Rattle.sd_core.proofs.Shown.{volumes_more}
use Rattle.sd_core.proofs.status.show_volumes.Goals as goal

pub loop-bay-preserved : goal.loop-bay-preserved
loop-bay-preserved g c =
    volumes_more c.args.bays.now c.loop-bay.bay-index c.bay-item.result c.loop-bay.lines.items c.add_bay.new.lines.items
    c.loop-bay.invariant c.bay-item.is c.loop-bay-test.true c.in_ok-add_bay.ensures
