use Rattle.std.proofs.Common.{List, subst}
use Rattle.sd_bnet.specs.declared.packet.Packet.{Packet}
use Rattle.sd_append.specs.Conversation.{Converses}
use Rattle.sd_append.specs.Does.{Does}
use Rattle.sd_append.specs.Out.{out_view}
use Rattle.sd_append.proofs.StandingLemmas.{piece_taken}
use Rattle.sd_append.proofs.conversation.take_piece.Goals as goal

pub returns-in-Ok-clause-comes : goal.returns-in-Ok-clause-comes
returns-in-Ok-clause-comes g c start left remains bytes more h =
    piece_taken (g.P.SessionPort.clock c.args.port.now) c.end_behind-end.result start left remains (g.P.SessionPort.asked c.args.port.now) (g.P.SessionPort.asked c.take_all-taken.new.port)
    (out_view g.W.Write.contents c.args.standing.outbox) (out_view g.W.Write.contents c.take_all-taken.result.outbox)
    c.args.standing.feeder c.feed.new.self c.args.standing.stage c.take_all-taken.result.stage bytes c.args.piece.now c.in-Ok.fed.packets c.in-Ok.fed.failed
    more h c.in-Ok.ensures.packets c.in-Ok.ensures.failed
    (subst (λ (packets : List Packet). Does (λ more out. Converses (g.P.SessionPort.clock c.args.port.now) c.args.standing.stage packets more out c.take_all-taken.result.stage) (g.P.SessionPort.asked c.args.port.now) (g.P.SessionPort.asked c.take_all-taken.new.port)
    (out_view g.W.Write.contents c.args.standing.outbox) (out_view g.W.Write.contents c.take_all-taken.result.outbox)) c.into_vec.ensures c.take_all-taken.ensures.does)
    c.end_behind-end.ensures
