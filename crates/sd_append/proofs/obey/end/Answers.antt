use Rattle.sd_append.specs.Out.{out_view}
use Rattle.sd_append.proofs.TalkLemmas.{end_obeys, end_refuses}
use Rattle.sd_append.proofs.obey.end.Goals as goal

pub returns-in-Ok-clause-does : goal.returns-in-Ok-clause-does
returns-in-Ok-clause-does g c =
    end_obeys (g.P.SessionPort.clock c.args.port.now) c.args.named c.in-Ok.it c.end_own.result (g.P.SessionPort.asked c.args.port.now) (g.P.SessionPort.asked c.end_own.new.port)
    (out_view g.W.Write.contents c.args.outbox.now) (out_view g.W.Write.contents c.end_own.new.outbox) c.in-Ok.is c.end_own.ensures.does

pub returns-in-Err-clause-does : goal.returns-in-Err-clause-does
returns-in-Err-clause-does g c =
    end_refuses (g.P.SessionPort.clock c.args.port.now) c.in-Err.own c.args.named (g.P.SessionPort.asked c.args.port.now) (out_view g.W.Write.contents c.args.outbox.now) (out_view g.W.Write.contents c.refuse.new.outbox) c.in-Err.is c.refuse.ensures
