use Rattle.sd_append.specs.Out.{out_view}
use Rattle.sd_append.proofs.TalkLemmas.{open_refuses}
use Rattle.sd_append.proofs.obey.open.Goals as goal

pub returns-then-running-clause-does : goal.returns-then-running-clause-does
returns-then-running-clause-does g c =
    open_refuses (g.P.SessionPort.clock c.args.port.now) c.args.running c.args.own c.args.job c.args.pool c.args.media (g.P.SessionPort.asked c.args.port.now)
    (out_view g.W.Write.contents c.args.outbox.now) (out_view g.W.Write.contents c.refuse.new.outbox) c.if-running.true c.refuse.ensures
