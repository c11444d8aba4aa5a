use Rattle.sd_core.specs.View.{volume_line}
use Rattle.sd_core.proofs.Shown.{mapped_more}
use Rattle.sd_core.proofs.status.add_volumes.Goals as goal

pub loop-volume-preserved : goal.loop-volume-preserved
loop-volume-preserved c =
    mapped_more volume_line c.args.lines.now.items c.loop-volume.lines.items c.push.new.self.items c.args.volumes.now c.loop-volume.volume-index
    c.volume-item.result c.show_volume.result c.loop-volume.invariant c.volume-item.is c.loop-volume-test.true c.show_volume.ensures c.in_ok-push.ensures.items
