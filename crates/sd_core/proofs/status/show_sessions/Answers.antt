use Rattle.std.proofs.Common.{arith, ap, ◌∙◌, []}
use Rattle.sd_core.specs.View.{session_line}
use Rattle.sd_core.proofs.Shown.{mapped_more, numbered_at}
use Rattle.sd_world.specs.World.{WorldSession}
use Rattle.sd_core.proofs.status.show_sessions.Goals as goal

pub show_session-requires-clause-least : goal.show_session-requires-clause-least
show_session-requires-clause-least g c =
    let n = numbered_at c.requires.rise.0 1 c.requires.rise.1 c.args.sessions.now c.loop-entry.entry-index c.entry-item.result c.requires.rise.3 c.loop-entry-test.true in
    let low = n.0 in
    omega (arith, low, ap (λ (e : WorldSession). e.session.key.id) c.entry-item.is)

pub show_session-requires-clause-most : goal.show_session-requires-clause-most
show_session-requires-clause-most g c =
    let n = numbered_at c.requires.rise.0 1 c.requires.rise.1 c.args.sessions.now c.loop-entry.entry-index c.entry-item.result c.requires.rise.3 c.loop-entry-test.true in
    let high = n.1 in
    let most = c.requires.rise.2 in
    omega (arith, high, most, ap (λ (e : WorldSession). e.session.key.id) c.entry-item.is)

pub loop-entry-preserved : goal.loop-entry-preserved
loop-entry-preserved g c =
    let i = c.loop-entry.invariant in
    record {
      told = mapped_more session_line [] c.loop-entry.lines.items c.push_reserved.new.self.items c.args.sessions.now c.loop-entry.entry-index
          c.entry-item.result c.show_session.result i.told c.entry-item.is c.loop-entry-test.true c.show_session.ensures c.push_reserved.ensures.items;
      long = omega (arith, i.long, c.push_reserved.ensures.len);
      room = c.push_reserved.ensures.capacity ∙ i.room;
    }
