use Rattle.sd_append.specs.Out.{out_view}
use Rattle.sd_append.proofs.TalkLemmas.{close_obeys, close_refuses}
use Rattle.sd_append.proofs.obey.close.Goals as goal

pub returns-in-Ok-clause-does : goal.returns-in-Ok-clause-does
returns-in-Ok-clause-does g c =
    close_obeys c.args.named c.in-Ok.it c.close_own.result (g.P.SessionPort.asked c.args.port.now) (g.P.SessionPort.asked c.close_own.new.port)
    (out_view g.W.Write.contents c.args.outbox.now) (out_view g.W.Write.contents c.close_own.new.outbox) c.in-Ok.is c.close_own.ensures.does

pub returns-in-Err-clause-does : goal.returns-in-Err-clause-does
returns-in-Err-clause-does g c =
    close_refuses c.in-Err.own c.args.named (g.P.SessionPort.asked c.args.port.now) (out_view g.W.Write.contents c.args.outbox.now) (out_view g.W.Write.contents c.refuse.new.outbox) c.in-Err.is c.refuse.ensures
