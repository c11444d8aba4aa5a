use Rattle.std.proofs.Common.{arith, ◌≡◌, ◌&&◌, true, List, refl, ap, ◌∙◌, subst}
use Rattle.std.proofs.lemmas.Result.{err_from_is_err_and}
use Rattle.sd_machine.specs.declared.event.Event.TheVariants.{Adopt}
use Rattle.sd_world.specs.Drives.{FailExactly}
use Rattle.sd_world.specs.World.{LaneView}
use Rattle.sd_world.proofs.Bays.{online_in}
use Rattle.sd_events.specs.View.{world_of}
use Rattle.sd_events.specs.Losing.{is_device_fault, holds_lane, has_lost}
use Rattle.sd_events.proofs.OperatingLemmas.{is_station, moves_failing, moves_calmly, missing}
use Rattle.sd_events.proofs.Found.{bay_read, never_empty, online_within}
use Rattle.sd_events.proofs.operating.operate_noted.Goals as goal

pub returns-in_err-place : goal.returns-in_err-place
returns-in_err-place g c =
    let w = world_of c.args.parts.now in
    let why = c.in_err-place.field-0.0 in
    record {
      moves = (let p = err_from_is_err_and c.from_residual.result c.from_residual.ensures.1 in rw (p.1, p.2)
          (missing (λ d. g.D.Driver.meaning d) w _ (Adopt c.args.drive c.args.name.now) c.args.drive why refl c.in_err-place.ensures.err refl));
    }

pub index_mut-bay-requires : goal.index_mut-bay-requires
index_mut-bay-requires g c = omega (arith, online_within (world_of c.args.parts.now) c.args.drive _ c.in_ok-place.ensures.ok, c.args.parts.now.bays.ok.0)

pub unreachable-requires : goal.unreachable-requires
unreachable-requires g c = never_empty (world_of c.args.parts.now) c.args.drive _ _ _ c.in_ok-place.ensures.ok c.index_mut-bay.ensures.value c.bay.view_is c.in_default.is

pub adopt_noted-reply-requires-clause-claimed : goal.adopt_noted-reply-requires-clause-claimed
adopt_noted-reply-requires-clause-claimed g c κs within =
    let bay = bay_read (world_of c.args.parts.now) c.args.drive _ _ _ c.in_ok-place.ensures.ok c.index_mut-bay.ensures.value c.bay.view_is in
    let on = online_in _ _ _ _ _ bay c.in-Some.is in
    (is_station (world_of c.args.parts.now) c.args.drive _ _ _ c.requires.world on).claimed

pub adopt_noted-reply-requires-clause-known : goal.adopt_noted-reply-requires-clause-known
adopt_noted-reply-requires-clause-known g c κs within =
    let bay = bay_read (world_of c.args.parts.now) c.args.drive _ _ _ c.in_ok-place.ensures.ok c.index_mut-bay.ensures.value c.bay.view_is in
    let on = online_in _ _ _ _ _ bay c.in-Some.is in
    c.requires.known _ _ _ on

pub returns-then-not-is_device_fault : goal.returns-then-not-is_device_fault
returns-then-not-is_device_fault g c =
    let bay = bay_read (world_of c.args.parts.now) c.args.drive _ _ _ c.in_ok-place.ensures.ok c.index_mut-bay.ensures.value c.bay.view_is in
    let on = online_in _ _ _ _ _ bay c.in-Some.is in
    record {
      moves = moves_calmly (λ d. g.D.Driver.meaning d) (world_of c.args.parts.now) c.args.drive _ _ _ _ (Adopt c.args.drive c.args.name.now) c.adopt_noted-reply.result _ _ _ c.requires.world on refl
          (c.adopt_noted-reply.ensures _) (λ fault. (let t : c.is_device_fault.result ≡ true = c.is_device_fault.ensures ∙ ap is_device_fault fault in let f = c.if-not-is_device_fault.true in cc (t, f))) refl;
    }

pub returns : goal.returns
returns g c =
    let bay = bay_read (world_of c.args.parts.now) c.args.drive _ _ _ c.in_ok-place.ensures.ok c.index_mut-bay.ensures.value c.bay.view_is in
    let on = online_in _ _ _ _ _ bay c.in-Some.is in
    record {
      moves = moves_failing (λ d. g.D.Driver.meaning d) (world_of c.args.parts.now) c.args.drive _ _ _ _ (Adopt c.args.drive c.args.name.now) c.adopt_noted-reply.result _ _ _ c.requires.world on refl
          (c.adopt_noted-reply.ensures _)
          (subst (λ (ls : List LaneView). FailExactly (λ e. holds_lane ls e && has_lost c.adopt_noted-reply.new.at.journal e) c.args.parts.now.sessions.items c.fail_lost.new.sessions.items)
          c.deref.ensures.value c.fail_lost.ensures);
    }
