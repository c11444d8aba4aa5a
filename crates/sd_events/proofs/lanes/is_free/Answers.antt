use Rattle.std.proofs.Common.{refl}
use Rattle.sd_world.specs.World.{WorldSession}
use Rattle.sd_events.proofs.Found.{read_found}
use Rattle.sd_events.proofs.Frees.{lane_tells}
use Rattle.sd_events.proofs.lanes.is_free.Goals as goal

pub returns : goal.returns
returns g c =
    let e : WorldSession = record { session = c.entry.inside.session; drive = c.entry.inside.drive } in
    let es = c.args.sessions.now in
    let f = (read_found c.in-Some.ticket es es c.in-Some-find.at e c.index-sessions-at.result c.in-Some-find.ensures.found refl c.index-sessions-at.is c.entry.view_is).found in
    lane_tells es c.args.drive.now.journal c.args.holder c.in-Some.ticket e c.is_done.result c.in-Some.is f c.is_done.ensures
