use Rattle.std.proofs.Common.{[], ap, ◌∙◌, rules}
use Rattle.std.specs.Prelude.{is_some}
use Rattle.sd_append.specs.Out.{out_view}
use Rattle.sd_append.specs.Standing.{around}
use Rattle.sd_append.proofs.StandingLemmas.{stands_first}
use Rattle.sd_append.proofs.TalksLemmas.{talk_without_memory, talks_of_writer, within_no_turn}
use Rattle.sd_append.proofs.conversation.talk.Goals as goal

pub returns-in_default-clause-talks : goal.returns-in_default-clause-talks
returns-in_default-clause-talks g c =
    ([], talk_without_memory (g.P.SessionPort.clock c.args.port.now) (g.R.Read.remaining c.args.reader.now) (g.P.SessionPort.asked c.args.port.now) (g.W.Write.contents c.args.writer) _, within_no_turn c.args.turns _)

pub returns-clause-talks : goal.returns-clause-talks
returns-clause-talks g c =
    let start = around (g.R.Read.remaining c.new-granted.result.reader.now) (g.P.SessionPort.asked c.args.port.now) (out_view g.W.Write.contents c.new-3.result) in
    let talked = rw (c.new-granted.ensures.reader, c.new-granted.ensures.left) at (talks_of_writer (g.P.SessionPort.clock c.args.port.now) (g.W.Write.contents c.new-3.result.writer) (g.W.Write.contents c.args.writer) _ _ _ _ _ _ _ (ap g.W.Write.contents c.new-3.ensures.writer)
    (c.take_turns.ensures.talks start (c.new-3.ensures.waiting ∙ c.in-Ok.ensures.waiting) (ap is_some c.new-3.ensures.fault)
    (stands_first (g.P.SessionPort.clock c.args.port.now) (g.R.Read.remaining c.new-granted.result.reader.now) (g.P.SessionPort.asked c.args.port.now) (out_view g.W.Write.contents c.new-3.result) c.new-2.result c.new-2.ensures))) in
    search rules
