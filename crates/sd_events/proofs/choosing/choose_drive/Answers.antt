use Rattle.std.proofs.Common.{◌≡◌, ap, ◌∙◌, arith, Err, List, length, take, map}
use Rattle.sd_world.specs.World.{WorldSession, bay_for}
use Rattle.sd_events.specs.View.{world_of}
use Rattle.sd_events.proofs.Chosen.{none_reserved}
use Rattle.sd_events.proofs.choosing.choose_drive.Goals as goal

pub returns-in-Err-clause-err : goal.returns-in-Err-clause-err
returns-in-Err-clause-err g c =
    let w = world_of c.args.parts.now in
    let drives = c.drives_of-drives.result in
    let bays = c.deref-2.result.now in
    let long : c.len.result ≡ length bays = omega (arith, c.len.ensures, c.deref-2.ensures.len) in
    let are = ap (λ n. take n drives) long ∙ c.drives_of-drives.ensures
    ∙ ap (λ (es : List WorldSession). map (bay_for es) bays) c.deref.ensures.value ∙ ap (map (bay_for w.sessions)) c.deref-2.ensures.value in
    none_reserved w c.args.pool.now c.args.media.now (take c.len.result drives) c.in-Err.fault c.refusal.result are c.refusal.ensures
    (λ e. c.in-Err.ensures.no_drive.0 (ap Err e)) (λ e. c.in-Err.ensures.offline.0 (ap Err e)) (λ e. c.in-Err.ensures.no_lane.0 (ap Err e))
