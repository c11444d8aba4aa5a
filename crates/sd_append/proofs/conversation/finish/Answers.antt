use Rattle.std.proofs.Common.{refl, ap}
use Rattle.sd_append.specs.Out.{out_view}
use Rattle.sd_append.proofs.TalksLemmas.{talk_done}
use Rattle.sd_append.proofs.conversation.finish.Goals as goal

pub returns-clause-talks : goal.returns-clause-talks
returns-clause-talks g c start left bytes first well h =
    talk_done (g.P.SessionPort.clock c.args.port.now) c.write_out.new.self.fault c.fault.result start left (g.P.SessionPort.asked c.args.port.now) (g.P.SessionPort.asked c.give_up_last.new.port)
    (out_view g.W.Write.contents c.args.standing.outbox) (out_view g.W.Write.contents c.say_end.new.outbox) (out_view g.W.Write.contents c.write_out.new.self)
    c.args.standing.stage c.own.result c.args.end c.written_end-end.result (g.W.Write.contents c.into_writer.result) bytes
    c.fault.ensures c.own.ensures c.written_end-end.ensures (ap g.W.Write.contents c.into_writer.ensures)
    first well h c.give_up_last.ensures.asked c.say_end.ensures c.write_out.ensures.puts c.write_out.ensures.empty refl
