use Rattle.std.proofs.Common.{length, option_to_list, refl, ap, ◌∙◌, arith}
use Rattle.sd_core.proofs.NewBays.{last_is, room_pop, bays_push, bay_made}
use Rattle.sd_core.proofs.new_bays.+make_bays.Goals as goal

pub make_bays-requires-clause-reserved : goal.make_bays-requires-clause-reserved
make_bays-requires-clause-reserved g t c κs within =
    (room_pop c.args.spools.now.items c.pop-3.new.self.items c.pop-4.new.self.items c.args.rooms.now.items c.unwrap-stores.result c.unwrap-lanes.result
    (last_is c.args.spools.now.items c.pop-3.new.self.items c.pop-3.result c.unwrap-stores.result c.pop-3.ensures.items c.unwrap-stores.ensures)
    (last_is c.args.rooms.now.items c.pop-4.new.self.items c.pop-4.result c.unwrap-lanes.result c.pop-4.ensures.items c.unwrap-lanes.ensures)
    c.requires.reserved).0

pub make_lanes-requires-clause-room : goal.make_lanes-requires-clause-room
make_lanes-requires-clause-room g t c κs within =
    let pair = room_pop c.args.spools.now.items c.pop-3.new.self.items c.pop-4.new.self.items c.args.rooms.now.items c.unwrap-stores.result c.unwrap-lanes.result
    (last_is c.args.spools.now.items c.pop-3.new.self.items c.pop-3.result c.unwrap-stores.result c.pop-3.ensures.items c.unwrap-stores.ensures)
    (last_is c.args.rooms.now.items c.pop-4.new.self.items c.pop-4.result c.unwrap-lanes.result c.pop-4.ensures.items c.unwrap-lanes.ensures)
    c.requires.reserved in
    omega (arith, pair.1.1, ap length pair.1.0, c.unwrap-lanes.result.ok.0, c.unwrap-stores.result.ok.0)

pub returns-clause-made : goal.returns-clause-made
returns-clause-made g t c =
    let spools_are = last_is c.args.spools.now.items c.pop-3.new.self.items c.pop-3.result c.unwrap-stores.result c.pop-3.ensures.items c.unwrap-stores.ensures in
    let pair = room_pop c.args.spools.now.items c.pop-3.new.self.items c.pop-4.new.self.items c.args.rooms.now.items c.unwrap-stores.result c.unwrap-lanes.result
    spools_are
    (last_is c.args.rooms.now.items c.pop-4.new.self.items c.pop-4.result c.unwrap-lanes.result c.pop-4.ensures.items c.unwrap-lanes.ensures)
    c.requires.reserved in
    bays_push _ (λ s. g.S.SpoolStore.meaning s) c.args.drives.now.items c.pop.new.self.items c.args.queues.now.items c.pop-2.new.self.items
    c.args.spools.now.items c.pop-3.new.self.items c.in-Some.drive c.unwrap-queue.result c.unwrap-stores.result c.make_bays.new.bays.items c.push_reserved.new.self.items _
    c.in-Some.ensures.items
    (last_is c.args.queues.now.items c.pop-2.new.self.items c.pop-2.result c.unwrap-queue.result c.pop-2.ensures.items c.unwrap-queue.ensures)
    spools_are
    (omega (arith, c.requires.queues, c.in-Some.ensures.len, c.pop-2.ensures.len, ap (λ o. length (option_to_list o)) c.unwrap-queue.ensures, c.pop-2.new.self.ok.0, c.pop.new.self.ok.0))
    (omega (arith, c.requires.spools, c.in-Some.ensures.len, c.pop-3.ensures.len, ap (λ o. length (option_to_list o)) c.unwrap-stores.ensures, c.pop-3.new.self.ok.0, c.pop.new.self.ok.0))
    c.make_bays.ensures.made c.push_reserved.ensures.items
    (bay_made (λ s. g.S.SpoolStore.meaning s) c.in-Some.drive _ c.unwrap-stores.result _ c.copy-media.result c.unwrap-lanes.result.items c.make_lanes.new.lanes.items
    refl (c.copy-media.ensures ∙ c.media.ensures) c.make_lanes.ensures.lanes pair.1.0)
