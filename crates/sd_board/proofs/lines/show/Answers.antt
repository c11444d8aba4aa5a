use Rattle.std.proofs.Common.{arith, ◌∙◌}
use Rattle.sd_board.specs.Lines.{session_line}
use Rattle.sd_board.proofs.SlotLemmas.{mapped_more}
use Rattle.sd_board.proofs.lines.show.Goals as goal

pub loop-posted-preserved : goal.loop-posted-preserved
loop-posted-preserved c =
    let i = c.loop-posted.invariant in
    let ps = c.args.sessions.now in
    let at = c.loop-posted.posted-index in
    record {
      told = mapped_more session_line ps at c.posted-item.result c.loop-posted.lines.items c.push_reserved.new.self.items c.line.result i.told c.posted-item.is c.loop-posted-test.true
          c.push_reserved.ensures.items c.line.ensures;
      long = omega (arith, i.long, c.push_reserved.ensures.len);
      room = c.push_reserved.ensures.capacity ∙ i.room;
    }
