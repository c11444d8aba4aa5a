use Rattle.sd_append.specs.Out.{out_view}
use Rattle.sd_append.proofs.TurnLemmas.{packet_as, signal_as}
use Rattle.sd_append.proofs.turn.take.Goals as goal

pub returns-in-Bytes-clause-does : goal.returns-in-Bytes-clause-does
returns-in-Bytes-clause-does g c =
    packet_as (g.P.SessionPort.clock c.args.port.now) c.args.stage c.args.packet _ c.take_bytes-stage.result (g.P.SessionPort.asked c.args.port.now) (g.P.SessionPort.asked c.take_bytes-stage.new.port) (out_view g.W.Write.contents c.args.outbox) (out_view g.W.Write.contents c.take_bytes-stage.new.outbox)
    c.in-Bytes.is c.take_bytes-stage.ensures.does

pub returns-in-Signal-clause-does : goal.returns-in-Signal-clause-does
returns-in-Signal-clause-does g c =
    signal_as (g.P.SessionPort.clock c.args.port.now) c.args.stage c.args.packet c.in-Signal.signal c.meaning_of.result c.take_signal.result.stage (g.P.SessionPort.asked c.args.port.now) (g.P.SessionPort.asked c.take_signal.new.port) (out_view g.W.Write.contents c.args.outbox)
    (out_view g.W.Write.contents c.take_signal.result.outbox) c.in-Signal.is c.meaning_of.ensures c.take_signal.ensures.does
