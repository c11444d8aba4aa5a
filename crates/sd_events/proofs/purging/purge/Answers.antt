use Rattle.std.proofs.Common.{All, List, None, Some, refl, sym, ap, subst, ◌∙◌, arith, inl, inr}
use Rattle.std.proofs.lemmas.Result.{err_from_is_err_and}
use Rattle.std.specs.Vec.{with_items}
use Rattle.std.proofs.lemmas.List.{with_items_is}
use Rattle.sd_world.specs.Drives.{purged_sessions}
use Rattle.sd_world.specs.World.{WorldSession}
use Rattle.sd_world.proofs.Bays.{online_in, drive_stays}
use Rattle.sd_events.specs.View.{world_of}
use Rattle.sd_events.specs.Purging.{NoneGoesOn}
use Rattle.sd_events.proofs.PurgeLemmas.{due_there, own_due, none_goes_on_there, purges, leaves}
use Rattle.sd_events.proofs.Found.{bay_read, never_empty, online_within}
use Rattle.sd_events.proofs.purging.purge.Goals as goal

pub returns-in_err-place : goal.returns-in_err-place
returns-in_err-place g c =
    record {
      moves = (let p = err_from_is_err_and c.from_residual.result c.from_residual.ensures.1 in rw (p.1, p.2)
          (inl (c.in_err-place.ensures.err, refl)));
    }

pub index_mut-bay-requires : goal.index_mut-bay-requires
index_mut-bay-requires g c = omega (arith, online_within (world_of c.args.parts.now) c.args.drive _ c.in_ok-place.ensures.ok, c.args.parts.now.bays.ok.0)

pub unreachable-requires : goal.unreachable-requires
unreachable-requires g c = never_empty (world_of c.args.parts.now) c.args.drive _ _ _ c.in_ok-place.ensures.ok c.index_mut-bay.ensures.value c.bay.view_is c.in_default.is

pub returns-in_err-may_purge : goal.returns-in_err-may_purge
returns-in_err-may_purge g c =
    let why = c.in_err-may_purge.field-0.0 in
    let w = world_of c.args.parts.now in
    let bay = bay_read (world_of c.args.parts.now) c.args.drive _ _ _ c.in_ok-place.ensures.ok c.index_mut-bay.ensures.value c.bay.view_is in
    let on = online_in w c.args.drive _ _ _ bay c.in-Some.is in
    let due = due_there w c.args.drive _ _ _ c.args.name.now _ (Some why) on c.deref.ensures.value c.in_err-may_purge.ensures.due in
    record {
      moves = (let p = err_from_is_err_and c.from_residual-in_err-may_purge.result c.from_residual-in_err-may_purge.ensures.1 in rw (p.1, p.2)
          (inr (inl (_, _, _, on, due, drive_stays w c.args.drive _ _ _ _ on refl))));
    }

pub empty-reply-requires-clause-due : goal.empty-reply-requires-clause-due
empty-reply-requires-clause-due g c κs within = own_due _ _ c.in_ok-may_purge.ensures.none

pub returns-then-not-is_emptied : goal.returns-then-not-is_emptied
returns-then-not-is_emptied g c =
    let w = world_of c.args.parts.now in
    let bay = bay_read (world_of c.args.parts.now) c.args.drive _ _ _ c.in_ok-place.ensures.ok c.index_mut-bay.ensures.value c.bay.view_is in
    let on = online_in w c.args.drive _ _ _ bay c.in-Some.is in
    let due = due_there w c.args.drive _ _ _ c.args.name.now _ None on c.deref.ensures.value c.in_ok-may_purge.ensures.none in
    record {
      moves = leaves (λ d. g.D.Driver.meaning d) w c.args.drive _ _ _ _ c.args.name.now c.empty-reply.result on due c.empty-reply.ensures _
          (sym c.is_emptied.ensures ∙ c.if-not-is_emptied.true) refl;
    }

pub purge_sessions-requires-clause-over : goal.purge_sessions-requires-clause-over
purge_sessions-requires-clause-over g c κs within =
    let w = world_of c.args.parts.now in
    let bay = bay_read (world_of c.args.parts.now) c.args.drive _ _ _ c.in_ok-place.ensures.ok c.index_mut-bay.ensures.value c.bay.view_is in
    let on = online_in w c.args.drive _ _ _ bay c.in-Some.is in
    let due = due_there w c.args.drive _ _ _ c.args.name.now _ None on c.deref.ensures.value c.in_ok-may_purge.ensures.none in
    subst (λ (es : List WorldSession). All (NoneGoesOn c.args.drive c.args.name.now c.empty-reply.new.at.journal) es) (sym c.deref_mut.ensures.value)
    (none_goes_on_there (λ d. g.D.Driver.meaning d) w c.args.drive _ _ _ _ c.args.name.now c.empty-reply.result on due c.empty-reply.ensures c.requires.world
    (sym c.is_emptied.ensures ∙ c.if-not-is_emptied.false))

pub returns : goal.returns
returns g c =
    let w = world_of c.args.parts.now in
    let bay = bay_read (world_of c.args.parts.now) c.args.drive _ _ _ c.in_ok-place.ensures.ok c.index_mut-bay.ensures.value c.bay.view_is in
    let on = online_in w c.args.drive _ _ _ bay c.in-Some.is in
    let due = due_there w c.args.drive _ _ _ c.args.name.now _ None on c.deref.ensures.value c.in_ok-may_purge.ensures.none in
    let same = c.purge_sessions.auto.sessions in
    let len = c.deref_mut.ensures.len in
    let sessions = with_items_is c.args.parts.now.sessions c.purge_sessions.new.sessions (omega (arith, same, len)) ∙ c.purge_sessions.ensures ∙ ap (purged_sessions c.args.drive c.args.name.now c.empty-reply.new.at.journal) c.deref_mut.ensures.value in
    record {
      moves = purges (λ d. g.D.Driver.meaning d) w c.args.drive _ _ _ _ c.args.name.now c.empty-reply.result on due c.empty-reply.ensures (with_items c.args.parts.now.sessions c.purge_sessions.new.sessions).items c.purged.new.self _
          (sym c.is_emptied.ensures ∙ c.if-not-is_emptied.false)
          (record { noted = c.purged.ensures.noted; others = c.purged.ensures.others; requests = c.purged.ensures.requests })
          sessions refl;
    }
