use Rattle.std.proofs.Common.{arith, ◌≤◌, List, length, refl, sym, subst, inl, inr}
use Rattle.std.proofs.lemmas.Result.{err_from_is_err_and}
use Rattle.sd_base.specs.Limits.{most_lanes}
use Rattle.sd_world.specs.World.{LaneView}
use Rattle.sd_world.proofs.Bays.{bay_stays, online_in}
use Rattle.sd_events.specs.View.{world_of}
use Rattle.sd_events.proofs.UsingLemmas.{used_there, used_here, retires}
use Rattle.sd_events.proofs.Found.{bay_read, never_empty, online_within}
use Rattle.sd_events.proofs.retiring.retire.Goals as goal

pub returns-in_err-place : goal.returns-in_err-place
returns-in_err-place g c =
    record {
      moves = (let p = err_from_is_err_and c.from_residual.result c.from_residual.ensures.1 in rw (p.1, p.2)
          ((refl, inl c.in_err-place.ensures.err)));
    }

pub index_mut-bay-requires : goal.index_mut-bay-requires
index_mut-bay-requires g c = omega (arith, online_within (world_of c.args.parts.now) c.args.drive _ c.in_ok-place.ensures.ok, c.args.parts.now.bays.ok.0)

pub unreachable-requires : goal.unreachable-requires
unreachable-requires g c = never_empty (world_of c.args.parts.now) c.args.drive _ _ _ c.in_ok-place.ensures.ok c.index_mut-bay.ensures.value c.bay.view_is c.in_default.is

pub is_used-requires-clause-most : goal.is_used-requires-clause-most
is_used-requires-clause-most g c κs within =
    let bay = bay_read (world_of c.args.parts.now) c.args.drive _ _ _ c.in_ok-place.ensures.ok c.index_mut-bay.ensures.value c.bay.view_is in
    subst (λ (ls : List LaneView). length ls ≤ most_lanes) (sym c.deref-2.ensures.value) (c.requires.world.bays _ _ bay.there).lanes_most

pub returns-then-is_used : goal.returns-then-is_used
returns-then-is_used g c =
    let bay = bay_read (world_of c.args.parts.now) c.args.drive _ _ _ c.in_ok-place.ensures.ok c.index_mut-bay.ensures.value c.bay.view_is in
    let on = online_in _ _ _ _ _ bay c.in-Some.is in
    let used = used_there (world_of c.args.parts.now) c.args.drive _ _ _ _ _ on c.deref.ensures.value c.deref-2.ensures.value (c.is_used.ensures.0 c.if-is_used.true) in
    record { moves = (bay_stays _ _ _ bay.there, inr (refl, _, _, _, on, used)) }

pub returns : goal.returns
returns g c =
    let bay = bay_read (world_of c.args.parts.now) c.args.drive _ _ _ c.in_ok-place.ensures.ok c.index_mut-bay.ensures.value c.bay.view_is in
    let on = online_in _ _ _ _ _ bay c.in-Some.is in
    record {
      moves = retires (world_of c.args.parts.now) _ c.args.drive _ _ _ on
          (λ used. (let t = c.is_used.ensures.1 (used_here (world_of c.args.parts.now) c.args.drive _ _ _ _ _ on c.deref.ensures.value c.deref-2.ensures.value used) in
          let f = c.if-is_used.false in
          cc (t, f)))
          refl;
    }
