use Rattle.std.proofs.Common.{arith, length}
use Rattle.sd_append.specs.Out.{out_view}
use Rattle.sd_append.specs.Standing.{around}
use Rattle.sd_append.proofs.StandingLemmas.{turn_at_end, turn_taken, turn_unread, turn_unwritten}
use Rattle.sd_append.proofs.conversation.turn.Goals as goal

pub returns-in-Some-clause-comes : goal.returns-in-Some-clause-comes
returns-in-Some-clause-comes g c start bytes h =
    turn_unwritten (g.P.SessionPort.clock c.args.port.now) c.in-Some.fault c.fault_end.result start (g.R.Read.remaining c.args.granted.now.reader.now) (g.P.SessionPort.asked c.args.port.now)
    (out_view g.W.Write.contents c.args.standing.outbox) (out_view g.W.Write.contents c.write_out.new.self) c.args.standing.feeder c.args.standing.stage bytes (length c.args.input.now)
    c.fault_end.ensures c.write_out.ensures.puts h

pub returns-in-Ok-eq0-clause-comes : goal.returns-in-Ok-eq0-clause-comes
returns-in-Ok-eq0-clause-comes g c start bytes h =
    turn_at_end (g.P.SessionPort.clock c.args.port.now) c.input_end-end.result start (g.R.Read.remaining c.args.granted.now.reader.now) (g.R.Read.remaining c.read.new.self.reader.now) (g.P.SessionPort.asked c.args.port.now)
    (out_view g.W.Write.contents c.args.standing.outbox) (out_view g.W.Write.contents c.write_out.new.self) c.args.standing.feeder c.args.standing.stage bytes
    c.read.new.input c.in-Ok-eq0.field-0 (length c.args.input.now)
    (omega (arith, c.in-Ok-eq0.field-0-test)) (omega (arith, c.read.auto.input, c.requires.room)) c.in-Ok-eq0.ensures.bytes c.input_end-end.ensures c.write_out.ensures.puts h

pub returns-in-Ok-clause-comes : goal.returns-in-Ok-clause-comes
returns-in-Ok-clause-comes g c start bytes h =
    turn_taken (g.P.SessionPort.clock c.args.port.now) c.take_piece.result.end start (around (g.R.Read.remaining c.read.new.self.reader.now) (g.P.SessionPort.asked c.take_piece.new.port) (out_view g.W.Write.contents c.take_piece.result.standing.outbox))
    (g.R.Read.remaining c.args.granted.now.reader.now) (g.R.Read.remaining c.read.new.self.reader.now) (g.P.SessionPort.asked c.args.port.now)
    (out_view g.W.Write.contents c.args.standing.outbox) (out_view g.W.Write.contents c.write_out.new.self)
    c.args.standing.feeder c.take_piece.result.standing.feeder c.args.standing.stage c.take_piece.result.standing.stage bytes
    c.read.new.input c.in-Ok.count (length c.args.input.now)
    (omega (arith, c.in-Ok.count-test)) c.in-Ok.ensures.bound.0 (omega (arith, c.read.auto.input)) c.in-Ok.ensures.bytes c.write_out.ensures.puts h
    (λ more stands. c.take_piece.ensures.comes start (g.R.Read.remaining c.args.granted.now.reader.now) (g.R.Read.remaining c.read.new.self.reader.now) bytes more stands)

pub returns-in-Err-clause-comes : goal.returns-in-Err-clause-comes
returns-in-Err-clause-comes g c start bytes h =
    turn_unread (g.P.SessionPort.clock c.args.port.now) start (g.R.Read.remaining c.args.granted.now.reader.now) (g.R.Read.remaining c.read.new.self.reader.now) (g.P.SessionPort.asked c.args.port.now)
    (out_view g.W.Write.contents c.args.standing.outbox) (out_view g.W.Write.contents c.write_out.new.self) c.args.standing.feeder c.args.standing.stage bytes (length c.args.input.now)
    c.in-Err.ensures.bytes c.write_out.ensures.puts h
