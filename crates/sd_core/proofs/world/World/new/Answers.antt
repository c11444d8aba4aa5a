use Rattle.std.proofs.Common.{List, length, refl, ap, subst, arith}
use Rattle.sd_world.specs.World.{BayView}
use Rattle.sd_world.specs.Steps.{DrivesKeep}
use Rattle.sd_core.specs.Conf.{limits_of}
use Rattle.sd_core.proofs.FreshWorld.{as_many_queues, as_many_stores, are_limits, is_fresh, fresh_is_world}
use Rattle.sd_core.proofs.world.World.new.Goals as goal

pub fill_bays-requires-clause-limits : goal.fill_bays-requires-clause-limits
fill_bays-requires-clause-limits g c κs within = are_limits c.args.conf c.args.time c.requires.conf c.requires.time_least c.requires.time_most

pub fill_bays-requires-clause-queues : goal.fill_bays-requires-clause-queues
fill_bays-requires-clause-queues g c κs within =
    omega (arith, as_many_queues _ c.args.conf.queue c.args.conf.drives.items c.args.lanes.items c.requires.lanes, c.args.lanes.ok.0, ap length c.deref.ensures.value)

pub fill_bays-requires-clause-spools : goal.fill_bays-requires-clause-spools
fill_bays-requires-clause-spools g c κs within =
    omega (arith, as_many_stores c.args.conf.drives.items c.args.spools.items c.requires.spools, c.args.spools.ok.0, ap length c.deref.ensures.value)

pub invariant_of-result : goal.invariant_of-result
invariant_of-result g c =
    fresh_is_world (λ d. g.D.Driver.meaning d) (λ q. record { lanes = g.Q.Lane.lanes q; capacity = g.Q.Lane.capacity q; held = g.Q.Lane.held q })
    (λ s. g.S.SpoolStore.meaning s) c.args.conf c.args.time c.args.drivers.items c.args.lanes.items c.args.spools.items _
    c.requires.conf c.requires.time_least c.requires.time_most c.requires.lanes c.requires.spools
    (is_fresh (λ d. g.D.Driver.meaning d) (λ q. record { lanes = g.Q.Lane.lanes q; capacity = g.Q.Lane.capacity q; held = g.Q.Lane.held q })
    (λ s. g.S.SpoolStore.meaning s) (limits_of c.args.conf c.args.time) c.args.conf.queue c.args.conf.drives.items c.deref.result.now
    c.args.drivers.items c.args.lanes.items c.args.spools.items c.in-Ok.ensures.made.0 _
    refl refl refl c.new.ensures.items c.new-in-Ok.ensures.no_claim c.new-in-Ok.ensures.no_request
    c.deref.ensures.value c.in-Ok.ensures.made.1 c.in-Ok.ensures.made.2)

pub returns-in-Ok-clause-fresh : goal.returns-in-Ok-clause-fresh
returns-in-Ok-clause-fresh g c =
    is_fresh (λ d. g.D.Driver.meaning d) (λ q. record { lanes = g.Q.Lane.lanes q; capacity = g.Q.Lane.capacity q; held = g.Q.Lane.held q })
    (λ s. g.S.SpoolStore.meaning s) (limits_of c.args.conf c.args.time) c.args.conf.queue c.args.conf.drives.items c.deref.result.now
    c.args.drivers.items c.args.lanes.items c.args.spools.items c.in-Ok.ensures.made.0 _
    refl refl refl c.new.ensures.items c.new-in-Ok.ensures.no_claim c.new-in-Ok.ensures.no_request
    c.deref.ensures.value c.in-Ok.ensures.made.1 c.in-Ok.ensures.made.2

pub returns-in-Ok-clause-sound : goal.returns-in-Ok-clause-sound
returns-in-Ok-clause-sound g c = record {
  rules = fresh_is_world (λ d. g.D.Driver.meaning d) (λ q. record { lanes = g.Q.Lane.lanes q; capacity = g.Q.Lane.capacity q; held = g.Q.Lane.held q })
      (λ s. g.S.SpoolStore.meaning s) c.args.conf c.args.time c.args.drivers.items c.args.lanes.items c.args.spools.items _
      c.requires.conf c.requires.time_least c.requires.time_most c.requires.lanes c.requires.spools
      (is_fresh (λ d. g.D.Driver.meaning d) (λ q. record { lanes = g.Q.Lane.lanes q; capacity = g.Q.Lane.capacity q; held = g.Q.Lane.held q })
      (λ s. g.S.SpoolStore.meaning s) (limits_of c.args.conf c.args.time) c.args.conf.queue c.args.conf.drives.items c.deref.result.now
      c.args.drivers.items c.args.lanes.items c.args.spools.items c.in-Ok.ensures.made.0 _
      refl refl refl c.new.ensures.items c.new-in-Ok.ensures.no_claim c.new-in-Ok.ensures.no_request
      c.deref.ensures.value c.in-Ok.ensures.made.1 c.in-Ok.ensures.made.2);
  drives = subst (λ (bays : List (BayView g.row.D.Denot)). DrivesKeep (λ d. g.D.Driver.meaning d) bays) c.deref-in-Ok.ensures.value c.know_drives.ensures;
}
