use Rattle.sd_append.specs.Out.{out_view}
use Rattle.sd_append.proofs.TakeLemmas.{open_obeyed, data_obeyed, end_obeyed, close_obeyed, read_obeyed, console_obeyed}
use Rattle.sd_append.proofs.take.obey.Goals as goal

pub returns-in-Open-clause-does : goal.returns-in-Open-clause-does
returns-in-Open-clause-does g c =
    open_obeyed (g.P.SessionPort.clock c.args.port.now) c.args.own c.args.command c.is_running-running.result c.in-Open.job c.in-Open.pool c.in-Open.media c.open.result (g.P.SessionPort.asked c.args.port.now) (g.P.SessionPort.asked c.open.new.port)
    (out_view g.W.Write.contents c.args.outbox.now) (out_view g.W.Write.contents c.open.new.outbox) c.in-Open.is c.is_running-running.ensures c.open.ensures.does

pub returns-in-Data-clause-does : goal.returns-in-Data-clause-does
returns-in-Data-clause-does g c =
    data_obeyed (g.P.SessionPort.clock c.args.port.now) c.args.own c.args.command c.in-Data.ticket c.own_with.result c.data.result (g.P.SessionPort.asked c.args.port.now) (g.P.SessionPort.asked c.args.port.now)
    (out_view g.W.Write.contents c.args.outbox.now) (out_view g.W.Write.contents c.data.new.outbox) c.in-Data.is c.own_with.ensures (c.data.ensures (g.P.SessionPort.asked c.args.port.now))

pub returns-in-End-clause-does : goal.returns-in-End-clause-does
returns-in-End-clause-does g c =
    end_obeyed (g.P.SessionPort.clock c.args.port.now) c.args.own c.args.command c.in-End.ticket c.own_with-in-End.result c.end.result (g.P.SessionPort.asked c.args.port.now) (g.P.SessionPort.asked c.end.new.port)
    (out_view g.W.Write.contents c.args.outbox.now) (out_view g.W.Write.contents c.end.new.outbox) c.in-End.is c.own_with-in-End.ensures c.end.ensures.does

pub returns-in-Close-clause-does : goal.returns-in-Close-clause-does
returns-in-Close-clause-does g c =
    close_obeyed (g.P.SessionPort.clock c.args.port.now) c.args.own c.args.command c.in-Close.ticket c.own_with-in-Close.result c.close.result (g.P.SessionPort.asked c.args.port.now) (g.P.SessionPort.asked c.close.new.port)
    (out_view g.W.Write.contents c.args.outbox.now) (out_view g.W.Write.contents c.close.new.outbox) c.in-Close.is c.own_with-in-Close.ensures c.close.ensures.does

pub returns-in-Read-clause-does : goal.returns-in-Read-clause-does
returns-in-Read-clause-does g c =
    read_obeyed (g.P.SessionPort.clock c.args.port.now) c.args.own c.args.command c.in-Read.key c.new.result (g.P.SessionPort.asked c.args.port.now) (out_view g.W.Write.contents c.args.outbox.now) c.in-Read.is c.new.ensures

pub returns-in-Console-clause-does : goal.returns-in-Console-clause-does
returns-in-Console-clause-does g c =
    console_obeyed (g.P.SessionPort.clock c.args.port.now) c.args.own c.args.command c.in-Console.line c.as_slice.result.now c.console.result (g.P.SessionPort.asked c.args.port.now) (g.P.SessionPort.asked c.console.new.port)
    (out_view g.W.Write.contents c.args.outbox.now) (out_view g.W.Write.contents c.console.new.outbox) c.in-Console.is c.as_slice.ensures c.console.ensures.does
