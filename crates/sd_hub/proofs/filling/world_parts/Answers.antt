use Rattle.std.proofs.Common.{List, sym, ap, subst, ◌∙◌, arith, length}
use Rattle.std.proofs.lemmas.List.Sorted.{length_permutation}
use Rattle.std.specs.List.Sorted.{IsPermutation}
use Rattle.sd_line.specs.Ends.{ToldSession}
use Rattle.sd_hub.specs.Settles.{SettledIs}
use Rattle.sd_hub.specs.Worlds.{BecomesWorld, lane_sessions, next_number, queue_view}
use Rattle.sd_world.specs.World.{WorldView}
use Rattle.sd_hub.specs.Claimed.{AreClaimed}
use Rattle.sd_hub.specs.Tickets.{HaveTickets, LanesHaveTickets}
use Rattle.sd_hub.proofs.Becomes.{all_have, alone, becomes, claims_own}
use Rattle.sd_hub.proofs.filling.world_parts.Goals as goal

pub leave_lanes-requires-clause-tickets : goal.leave_lanes-requires-clause-tickets
leave_lanes-requires-clause-tickets g c κs within = subst (λ (s : SettledIs _). LanesHaveTickets s.lanes) (sym c.settled.view_is) c.requires.tickets

pub next_number-next-requires-after_bounds : goal.next_number-next-requires-after_bounds
next_number-next-requires-after_bounds g c κs within =
    let lanes = c.settled.inside.lanes.items in
    let told = c.sorted-sessions.result.items in
    let have = subst (λ (s : SettledIs _). LanesHaveTickets s.lanes) (sym c.settled.view_is) c.requires.tickets in
    subst HaveTickets (sym c.deref.ensures.value)
    (all_have lanes told have (subst (λ (ss : List ToldSession). IsPermutation ss told) c.leave_lanes.ensures.told c.sorted-sessions.ensures.all))

pub enter_all-requires-clause-room : goal.enter_all-requires-clause-room
enter_all-requires-clause-room g c κs within =
    let same = length_permutation c.leave_lanes.new.told.items c.sorted-sessions.result.items c.sorted-sessions.ensures.all in
    let told = ap length c.leave_lanes.ensures.told in
    let all = ap (λ (s : SettledIs _). length (lane_sessions s.lanes)) c.settled.view_is in
    let room = c.requires.entries.1 in
    omega (arith, same, told, all, room)

pub returns-clause-becomes : goal.returns-clause-becomes
returns-clause-becomes g c =
    let inside = c.settled.inside in
    let s : SettledIs _ = record { drive = inside.drive; queue = inside.queue; lanes = inside.lanes.items } in
    let told = c.sorted-sessions.result.items in
    let w : WorldView _ = record {
      limits = c.copy-limits.result;
      queue = c.capacity-capacity.result;
      next = c.next_number-next.result;
      sessions = c.enter_all.new.entries.items;
      bays = c.push_reserved.new.self.items;
      desk = c.args.room.desk;
    } in (
      told,
      subst (λ (x : SettledIs _). BecomesWorld x told w) c.settled.view_is
          (becomes s c.leave_lanes.new.told.items told w c.copy-media.result c.leave_lanes.new.slots.items
          c.leave_lanes.ensures.told c.sorted-sessions.ensures.all c.sorted-sessions.ensures.rise c.enter_all.ensures
          (c.next_number-next.ensures ∙ ap next_number c.deref.ensures.value) (c.copy-limits.ensures ∙ c.limits.ensures) c.capacity-capacity.ensures
          (alone c.push_reserved.new.self.items c.args.room.bays.items _ c.push_reserved.ensures.items c.requires.bays.0) (c.copy-media.ensures ∙ c.media.ensures) c.leave_lanes.ensures.slots
          (subst (λ (x : SettledIs _). AreClaimed x.drive.volumes c.args.room.desk) (sym c.settled.view_is) c.requires.claimed)),
    )

pub returns-clause-claimed : goal.returns-clause-claimed
returns-clause-claimed g c =
    let inside = c.settled.inside in
    let w : WorldView _ = record {
      limits = c.copy-limits.result;
      queue = c.capacity-capacity.result;
      next = c.next_number-next.result;
      sessions = c.enter_all.new.entries.items;
      bays = c.push_reserved.new.self.items;
      desk = c.args.room.desk;
    } in
    claims_own w inside.drive c.copy-media.result c.leave_lanes.new.slots.items (queue_view inside.queue)
    (alone c.push_reserved.new.self.items c.args.room.bays.items _ c.push_reserved.ensures.items c.requires.bays.0)
    (subst (λ (x : SettledIs _). AreClaimed x.drive.volumes c.args.room.desk) (sym c.settled.view_is) c.requires.claimed)
