use Rattle.std.proofs.Common.{ℕ, sym, ap, subst, ◌∙◌}
use Rattle.sd_ruled.specs.Seats.{DriveSeatIs}
use Rattle.sd_hub.specs.Settles.{AllThere, CheckedIs, SettledIs, Settles, checked_of, line_of}
use Rattle.sd_hub.proofs.TakenLemmas.{settles, taken_seats}
use Rattle.sd_hub.proofs.checked.Checked.take_apart.Goals as goal

pub gather-seats-requires-clause-there : goal.gather-seats-requires-clause-there
gather-seats-requires-clause-there g c κs within =
    subst (λ (n : ℕ). AllThere c.self.inside.parts.no n c.self.inside.ends.items) (sym c.lanes-lanes.ensures.lanes) c.self.invariant.passes.synced.keys.lanes.there

pub join-queue-requires-clause-drive : goal.join-queue-requires-clause-drive
join-queue-requires-clause-drive g c =
    let i = c.self.invariant in
    let parts = c.into_parts-drive.ensures in
    ap (λ (s : DriveSeatIs). s.table) parts.seat ∙ (parts.keeps.here ∙ (ap g.N.Naming.table i.passes.synced.keys.lanes.no_is ∙ sym c.self.inside.parts.here))

pub join-queue-requires-clause-count : goal.join-queue-requires-clause-count
join-queue-requires-clause-count g c =
    c.gather-seats.ensures.seats_are ∙ (c.lanes-lanes.ensures.lanes ∙ ap (λ (s : DriveSeatIs). s.lanes) (sym c.into_parts-drive.ensures.seat))

pub join-queue-requires-clause-seats : goal.join-queue-requires-clause-seats
join-queue-requires-clause-seats g c =
    let p = c.self.inside.parts in
    taken_seats g.N.Naming.table g.N.Naming.time p.no c.self.inside.ends.items c.lanes-lanes.result c.gather-seats.result.seats.items c.gather-seats.result.lanes.items p.queue.table c.gather-seats.ensures
    (sym c.self.inside.parts.here)

pub returns : goal.returns
returns g c =
    let p = c.self.inside.parts in
    let i = c.self.invariant in
    let own = checked_of (line_of p.no p.media p.limits p.queue) p.side c.self.inside.ends.items c.self.inside.receipts.items in
    let j = c.join-queue.ensures in
    let parts = c.into_parts-drive.ensures in
    let seats = taken_seats g.N.Naming.table g.N.Naming.time p.no c.self.inside.ends.items c.lanes-lanes.result c.gather-seats.result.seats.items c.gather-seats.result.lanes.items p.queue.table c.gather-seats.ensures (sym c.self.inside.parts.here) in
    let out : SettledIs _ = record { drive = c.into_parts-drive.result.0; queue = c.join-queue.result; lanes = c.gather-seats.result.lanes.items } in
    subst (λ (x : CheckedIs _). Settles (λ d. g.D.Driver.meaning d) g.N.Naming.table g.N.Naming.time x out) c.self.view_is
    (settles (λ d. g.D.Driver.meaning d) g.N.Naming.table g.N.Naming.time own c.lanes-lanes.result c.gather-seats.result.seats.items out i.passes parts.keeps parts.drive
    (j.taken ∙ ap (λ (s : DriveSeatIs). s.taken) parts.seat) j.queue (j.lanes ∙ ap (λ (s : DriveSeatIs). s.lanes) parts.seat) c.lanes-lanes.ensures.lanes j.of_lanes c.gather-seats.ensures seats j.follows)
