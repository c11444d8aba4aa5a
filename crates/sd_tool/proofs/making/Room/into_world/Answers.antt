use Rattle.std.proofs.Common.{true, ap, sym, subst, ◌∙◌, length, map, replicate}
use Rattle.std.specs.Prelude.{is_some}
use Rattle.sd_lane.specs.Queue.{LanesView}
use Rattle.sd_spool.specs.Meaning.{Meaning}
use Rattle.sd_spool.specs.MemSpool.{meaning_of}
use Rattle.sd_spool.specs.declared.memory.MemSpool.{MemSpool}
use Rattle.sd_core.proofs.FreshWorld.{zip_long}
use Rattle.sd_core.specs.Fresh.{AreNewDrives}
use Rattle.sd_tool.proofs.StageLemmas.{drives_long, new_drives, new_online}
use Rattle.sd_tool.proofs.making.Room.into_world.Goals as goal

pub returns-in-Ok : goal.returns-in-Ok
returns-in-Ok g c =
    let f = c.in-Ok.ensures.fresh in
    let r = c.requires.room in
    let medias = c.args.self.conf.drives.items in
    let many = ap length r.drives_are in
    let queue : g.row.Q.Denot → LanesView = λ q. record { lanes = g.Q.Lane.lanes q; capacity = g.Q.Lane.capacity q; held = g.Q.Lane.held q } in
    let store : MemSpool → Meaning = λ s. meaning_of s in
    let online = new_online _ queue store _ medias c.args.drivers.items f.drives c.args.self.queues.items c.args.self.stores.items f.drives_are
    (c.requires.drivers ∙ sym many) (zip_long _ medias c.args.self.queues.items r.queues) (zip_long _ medias c.args.self.stores.items r.stores) in
    let limits = c.in-Ok.world.limits in
    let count = drives_long _ _ medias c.args.drivers.items f.drives f.drives_are ∙ c.requires.drivers ∙ sym many in
    record {
      block_is = ap (λ l. l.block) f.limits_are ∙ r.block_is;
      volume_is = ap (λ l. l.volume) f.limits_are ∙ r.volume_is;
      spool_is = ap (λ l. l.spool) f.limits_are ∙ r.spool_is;
      time_is = ap (λ l. l.time) f.limits_are;
      host_is = ap (λ l. l.host) f.limits_are ∙ r.host_is;
      queue_is = f.queue_is ∙ r.queue_is;
      no_session = f.no_session;
      drives = f.drives;
      drives_are = subst (λ ms. AreNewDrives (λ d. g.D.Driver.meaning d) limits ms c.args.drivers.items f.drives) r.drives_are (subst (λ l. AreNewDrives (λ d. g.D.Driver.meaning d) l medias c.args.drivers.items f.drives) (sym f.limits_are) f.drives_are);
      bays_have = ap (map (λ b. b.drive)) f.bays_are ∙ new_drives queue store f.drives c.args.self.queues.items c.args.self.stores.items
          (zip_long _ medias c.args.self.queues.items r.queues ∙ sym count) (zip_long _ medias c.args.self.stores.items r.stores ∙ sym count);
      online = ap (map (λ b. is_some b.drive)) f.bays_are ∙ online ∙ ap (λ n. replicate n true) many;
    }
