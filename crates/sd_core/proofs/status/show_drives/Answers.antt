use Rattle.std.proofs.Common.{arith, refl, ◌∙◌}
use Rattle.std.proofs.lemmas.Option.{slice_get_read}
use Rattle.sd_core.proofs.Shown.{drives_more}
use Rattle.sd_core.proofs.status.show_drives.Goals as goal

pub show_drive-requires-clause-lanes : goal.show_drive-requires-clause-lanes
show_drive-requires-clause-lanes g c κs within =
    c.requires.lanes c.loop-bay.bay-index c.bay-item.result
    (slice_get_read c.args.bays.now _ c.loop-bay.bay-index c.bay-item.result refl c.loop-bay-test.true c.bay-item.is)

pub loop-bay-preserved : goal.loop-bay-preserved
loop-bay-preserved g c =
    let i = c.loop-bay.invariant in
    record {
      told = drives_more c.args.sessions.now c.args.bays.now c.loop-bay.bay-index c.len-at.result c.bay-item.result c.show_drive.result
          c.loop-bay.lines.items c.push_reserved.new.self.items i.told c.bay-item.is c.loop-bay-test.true (c.len-at.ensures ∙ i.long)
          c.show_drive.ensures c.push_reserved.ensures.items;
      long = omega (arith, i.long, c.push_reserved.ensures.len);
      room = c.push_reserved.ensures.capacity ∙ i.room;
    }
