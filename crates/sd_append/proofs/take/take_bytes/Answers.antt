use Rattle.std.proofs.Common.{refl}
use Rattle.sd_append.specs.Out.{out_view}
use Rattle.sd_append.proofs.TakeLemmas.{command_step, header_step, record_step, span_step, plain_step}
use Rattle.sd_append.proofs.take.take_bytes.Goals as goal

pub returns-in-Command-clause-does : goal.returns-in-Command-clause-does
returns-in-Command-clause-does g c =
    command_step (g.P.SessionPort.clock c.args.port.now) c.args.stage c.in-Command.own c.args.payload c.as_slice.result.now c.take_command.result (g.P.SessionPort.asked c.args.port.now) (g.P.SessionPort.asked c.take_command.new.port)
    (out_view g.W.Write.contents c.args.outbox.now) (out_view g.W.Write.contents c.take_command.new.outbox) c.in-Command.is c.as_slice.ensures.bytes c.take_command.ensures.does

pub returns-in-Header-clause-does : goal.returns-in-Header-clause-does
returns-in-Header-clause-does g c =
    header_step (g.P.SessionPort.clock c.args.port.now) c.args.stage c.in-Header.own c.args.payload c.as_slice-in-Header.result.now c.take_header.result (g.P.SessionPort.asked c.args.port.now) (g.P.SessionPort.asked c.take_header.new.port)
    (out_view g.W.Write.contents c.args.outbox.now) c.in-Header.is c.as_slice-in-Header.ensures.bytes c.take_header.ensures.asked

pub returns-in-Records-clause-does : goal.returns-in-Records-clause-does
returns-in-Records-clause-does g c =
    record_step (g.P.SessionPort.clock c.args.port.now) c.args.stage c.in-Records.own c.in-Records.header c.args.payload c.take_record.result (g.P.SessionPort.asked c.args.port.now) (g.P.SessionPort.asked c.take_record.new.port)
    (out_view g.W.Write.contents c.args.outbox.now) c.in-Records.is c.take_record.ensures.asked

pub returns-in-Refused-clause-does : goal.returns-in-Refused-clause-does
returns-in-Refused-clause-does g c = plain_step (g.P.SessionPort.clock c.args.port.now) c.args.stage _ c.args.payload _ (g.P.SessionPort.asked c.args.port.now) (out_view g.W.Write.contents c.args.outbox.now) c.in-Refused.is (refl, refl, refl)

pub returns-in-Dropped-clause-does : goal.returns-in-Dropped-clause-does
returns-in-Dropped-clause-does g c = plain_step (g.P.SessionPort.clock c.args.port.now) c.args.stage _ c.args.payload _ (g.P.SessionPort.asked c.args.port.now) (out_view g.W.Write.contents c.args.outbox.now) c.in-Dropped.is (refl, refl, refl)

pub returns-in-Spans-clause-does : goal.returns-in-Spans-clause-does
returns-in-Spans-clause-does g c =
    span_step (g.P.SessionPort.clock c.args.port.now) c.args.stage c.in-Spans.own c.in-Spans.text c.args.payload c.as_slice-in-Spans.result.now c.take_span.result (g.P.SessionPort.asked c.args.port.now)
    (out_view g.W.Write.contents c.args.outbox.now) c.in-Spans.is c.as_slice-in-Spans.ensures.bytes c.take_span.ensures

pub returns-in-BadSpans-clause-does : goal.returns-in-BadSpans-clause-does
returns-in-BadSpans-clause-does g c = plain_step (g.P.SessionPort.clock c.args.port.now) c.args.stage _ c.args.payload _ (g.P.SessionPort.asked c.args.port.now) (out_view g.W.Write.contents c.args.outbox.now) c.in-BadSpans.is (refl, refl, refl)

pub returns-in-Over-clause-does : goal.returns-in-Over-clause-does
returns-in-Over-clause-does g c = plain_step (g.P.SessionPort.clock c.args.port.now) c.args.stage _ c.args.payload _ (g.P.SessionPort.asked c.args.port.now) (out_view g.W.Write.contents c.args.outbox.now) c.in-Over.is (refl, refl, refl)
