use Rattle.std.proofs.Common.{◌∙◌, ap, subst, List, ℕ, Some}
use Rattle.sd_drive.specs.View.{DriveIs}
use Rattle.sd_journal.specs.Journal.{with_key}
use Rattle.sd_world.specs.World.{WorldSession}
use Rattle.sd_events.specs.Opening.{StartsInLane}
use Rattle.sd_events.proofs.opening.open_at.Goals as goal

pub returns-clause-ok : goal.returns-clause-ok
returns-clause-ok g c = record {
  session = c.in_ok-session.session;
  sessions = c.start.new.sessions.items;
  starts = subst (λ (es : List WorldSession). StartsInLane c.args.limits.now c.args.ticket c.args.opening c.args.lane.now es c.in_ok-session.session c.start.new.lane c.start.new.sessions.items)
      c.make_room.ensures.items c.in_ok-session.ensures.ok;
  new_is = c.push_reserved.ensures.items;
  drive_is = c.set_pool.ensures ∙ ap (λ (x : DriveIs _). record x { pool = Some c.copy-pool.result }) c.in-Ok.ensures.drive
      ∙ ap (λ (p : List ℕ). record c.args.at.now { pool = Some p; ready = with_key c.args.opening.key c.args.at.now.ready }) c.copy-pool.ensures;
}
