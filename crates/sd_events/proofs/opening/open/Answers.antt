use Rattle.std.proofs.Common.{◌∙◌, arith, inl, inr, refl, rules, subst, w64}
use Rattle.std.proofs.lemmas.Result.{err_from_is_err_and}
use Rattle.std.proofs.lemmas.Bool.{cases_lt}
use Rattle.std.proofs.lemmas.Int.{to_z-of_z}
use Rattle.sd_base.specs.Limits.{most_number}
use Rattle.sd_events.specs.View.{world_of}
use Rattle.sd_events.specs.Opening.{OpensNotAt}
use Rattle.sd_events.proofs.Opened.{opened, not_opened, next_least}
use Rattle.sd_events.proofs.Reached.{reached, bay_reached, never_offline, lanes_few, some_free, is_lowest, lane_reached, opens_with}
use Rattle.sd_events.proofs.opening.open.Goals as goal

pub returns-in_default : goal.returns-in_default
returns-in_default g c =
    let w = world_of c.args.parts.now in
    let least = next_least w.limits.time 1 w.next w.sessions c.requires.world.numbers in
    elim (cases_lt most_number w.next) [
      | inl past ↦ record { moves = inl (past, refl, refl) }
      | inr fits ↦ absurd (cc (c.in_default.ensures.within.1 (least, fits)))
    ]

pub index_mut-bay-requires : goal.index_mut-bay-requires
index_mut-bay-requires g c =
    let r = reached (world_of c.args.parts.now) c.args.pool c.args.media _ _ c.index_of-place.ensures c.in_ok-drive.ensures.ok in
    omega (arith, r.within, c.args.parts.now.bays.ok.0)

pub unreachable-requires : goal.unreachable-requires
unreachable-requires g c =
    let b = bay_reached (world_of c.args.parts.now) c.args.pool c.args.media _ _ _ _ c.requires.world c.index_of-place.ensures c.in_ok-drive.ensures.ok c.index_mut-bay.ensures.value c.bay.view_is in
    never_offline b c.in_default-drive.is

pub choose_lane-lane-requires-clause-most : goal.choose_lane-lane-requires-clause-most
choose_lane-lane-requires-clause-most g c κs within =
    let b = bay_reached (world_of c.args.parts.now) c.args.pool c.args.media _ _ _ _ c.requires.world c.index_of-place.ensures c.in_ok-drive.ensures.ok c.index_mut-bay.ensures.value c.bay.view_is in
    lanes_few c.deref-2.result.now b c.deref-2.ensures.value

pub choose_lane-lane-requires-clause-free : goal.choose_lane-lane-requires-clause-free
choose_lane-lane-requires-clause-free g c κs within =
    let b = bay_reached (world_of c.args.parts.now) c.args.pool c.args.media _ _ _ _ c.requires.world c.index_of-place.ensures c.in_ok-drive.ensures.ok c.index_mut-bay.ensures.value c.bay.view_is in
    some_free c.in-Some-drive.at c.deref.result.now c.deref-2.result.now b c.in-Some-drive.is c.deref.ensures.value c.deref-2.ensures.value

pub index_mut-slot-requires : goal.index_mut-slot-requires
index_mut-slot-requires g c =
    let l = is_lowest _ c.deref.result.now c.in-Some-drive.at.journal _ c.deref-2.result.now _ _ c.deref.ensures.value c.deref-2.ensures.value c.get-2.ensures.value c.choose_lane-lane.ensures.lowest in
    omega (arith, l.within, c.bay.inside.lanes.ok.0)

pub open_at-requires-clause-stored : goal.open_at-requires-clause-stored
open_at-requires-clause-stored g c κs within =
    let b = bay_reached (world_of c.args.parts.now) c.args.pool c.args.media _ _ _ _ c.requires.world c.index_of-place.ensures c.in_ok-drive.ensures.ok c.index_mut-bay.ensures.value c.bay.view_is in
    let l = lane_reached c.in-Some-drive.at _ _ _ _ _ b c.in-Some-drive.is c.deref.ensures.value c.deref-2.ensures.value c.get-2.ensures.value c.choose_lane-lane.ensures.lowest c.index_mut-slot.ensures.value in
    l.can_take

pub returns : goal.returns
returns g c =
    let w = world_of c.args.parts.now in
    let b = bay_reached (world_of c.args.parts.now) c.args.pool c.args.media _ _ _ _ c.requires.world c.index_of-place.ensures c.in_ok-drive.ensures.ok c.index_mut-bay.ensures.value c.bay.view_is in
    let l = lane_reached c.in-Some-drive.at _ _ _ _ _ b c.in-Some-drive.is c.deref.ensures.value c.deref-2.ensures.value c.get-2.ensures.value c.choose_lane-lane.ensures.lowest c.index_mut-slot.ensures.value in
    let ticket = c.in-Some.ensures.value in
    let o = opens_with w _ c.args.job c.args.pool c.args.media c.args.moment _ c.get.result c.choose_lane-lane.result c.in-Some.ticket c.in_ok-drive.drive c.index_mut-slot.result.now
    c.open_at.new.lane c.open_at.new.sessions.items c.in-Some-drive.at c.open_at.new.at (c.get.ensures.value ∙ ticket) l.number_is c.in_ok-open_at.ensures.ok
    (search (rules, to_z-of_z w64 c.args.moment c.ranges.moment)) in
    record { moves = opened c.args.job c.args.moment c.in-Some.ticket c.open_at.new.at c.open_at.new.lane c.open_at.new.sessions.items (c.in-Some.ensures.within.0 refl).1 ticket l.reserves o }

pub returns-in_err-open_at : goal.returns-in_err-open_at
returns-in_err-open_at g c =
    let w = world_of c.args.parts.now in
    let b = bay_reached (world_of c.args.parts.now) c.args.pool c.args.media _ _ _ _ c.requires.world c.index_of-place.ensures c.in_ok-drive.ensures.ok c.index_mut-bay.ensures.value c.bay.view_is in
    let l = lane_reached c.in-Some-drive.at _ _ _ _ _ b c.in-Some-drive.is c.deref.ensures.value c.deref-2.ensures.value c.get-2.ensures.value c.choose_lane-lane.ensures.lowest c.index_mut-slot.ensures.value in
    let why = c.in_err-open_at.field-0.0 in
    record {
      moves = (let p = err_from_is_err_and c.from_residual-in_err-open_at.result c.from_residual-in_err-open_at.ensures.1 in rw (p.1, p.2)
          (not_opened why c.open_at.new.at c.open_at.new.lane c.open_at.new.sessions.items (c.in-Some.ensures.within.0 refl).1 l.reserves
          (subst (λ i. OpensNotAt w.limits (record { time = w.limits.time; id = i }) c.index_mut-slot.result.now w.sessions c.in-Some-drive.at why c.open_at.new.lane c.open_at.new.sessions.items c.open_at.new.at)
          (c.get.ensures.value ∙ c.in-Some.ensures.value) c.in_err-open_at.ensures.err)));
    }
