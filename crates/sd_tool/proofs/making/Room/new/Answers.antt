use Rattle.std.proofs.Common.{ap, subst, ◌∙◌}
use Rattle.sd_core.specs.Conf.{AreQueues, AreStores}
use Rattle.sd_tool.specs.Settings.{AreSettable, ValuesView}
use Rattle.sd_tool.proofs.MakingLemmas.{lanes_within, settings_fit}
use Rattle.sd_tool.proofs.making.Room.new.Goals as goal

pub returns : goal.returns
returns g c =
    let is = c.values.view_is in
    let block = ap (λ (v : ValuesView). v.block) is in
    let volume = ap (λ (v : ValuesView). v.volume) is in
    let spool = ap (λ (v : ValuesView). v.spool) is in
    let queue = ap (λ (v : ValuesView). v.queue) is in
    record {
      conf = settings_fit c.args.values.now _ (subst AreSettable is c.values.invariant) c.requires block volume spool queue c.in_ok-drives.ensures;
      block_is = block;
      volume_is = volume;
      spool_is = spool;
      queue_is = queue;
      drives_are = c.in_ok-drives.ensures;
      host_is = c.copy_of.ensures ∙ ap (λ (v : ValuesView). v.host) is;
      queues = subst (λ ds. AreQueues (λ q. record { lanes = g.Q.Lane.lanes q; capacity = g.Q.Lane.capacity q; held = g.Q.Lane.held q }) c.values.inside.queue ds c.in_ok-queues.queues.items) c.deref.ensures.value c.in_ok-queues.ensures;
      stores = subst (λ ds. AreStores ds c.in_ok-stores.stores.items) c.deref-2.ensures.value c.in_ok-stores.ensures;
    }
