use Rattle.std.proofs.Common.{◌≡◌, List, refl, sym, subst, ◌∙◌}
use Rattle.std.proofs.lemmas.Iterator.Adapters.{YieldsList-from_vec}
use Rattle.std.proofs.lemmas.Iterator.Consumers.{YieldsList-end}
use Rattle.std.proofs.lemmas.List.{map-id}
use Rattle.sd_bnet.specs.declared.packet.Packet.{Packet}
use Rattle.sd_append.specs.Conversation.{Converses}
use Rattle.sd_append.specs.Does.{Does}
use Rattle.sd_append.specs.Out.{out_view}
use Rattle.sd_append.proofs.ConverseLemmas.{converses_none, converses_then}
use Rattle.sd_append.proofs.turn.take_all.Goals as goal

pub loop-packet-init : goal.loop-packet-init
loop-packet-init g c = (converses_none (g.P.SessionPort.clock c.args.port.now) c.args.stage (g.P.SessionPort.asked c.args.port.now) (out_view g.W.Write.contents c.args.outbox), refl)

pub loop-packet-preserved : goal.loop-packet-preserved
loop-packet-preserved g c = (
  converses_then (g.P.SessionPort.clock c.args.port.now) c.args.stage c.loop-packet.taken.stage c.take_next-taken.result.stage c.loop-packet.yielded c.in-Some.packet
      (g.P.SessionPort.asked c.args.port.now) (g.P.SessionPort.asked c.loop-packet.port) (g.P.SessionPort.asked c.take_next-taken.new.port) (out_view g.W.Write.contents c.args.outbox) (out_view g.W.Write.contents c.loop-packet.taken.outbox) (out_view g.W.Write.contents c.take_next-taken.result.outbox)
      c.loop-packet.invariant.0 (rw c.loop-packet.invariant.1 at c.take_next-taken.ensures.does),
  c.take_next-taken.ensures.clock ∙ c.loop-packet.invariant.1,
)

pub returns-clause-does : goal.returns-clause-does
returns-clause-does g c =
    let from = c.into_iter-packet-iterator.ensures.into_iter_gives in
    let gave = YieldsList-end (YieldsList-from_vec {s = c.into_iter-packet-iterator.result} c.args.packets.items from.0 (from.1 ∙ c.args.packets.ok.0))
    c.loop-packet.yielded c.loop-packet.packet-iterator c.loop-packet.yielded_by _ c.next.new.self c.in-None.is c.next.ensures.steps in
    let all : c.loop-packet.yielded ≡ c.args.packets.items = sym (map-id c.loop-packet.yielded) ∙ gave.0 in
    subst (λ (packets : List Packet). Does (λ asked out. Converses (g.P.SessionPort.clock c.args.port.now) c.args.stage packets asked out c.loop-packet.taken.stage) (g.P.SessionPort.asked c.args.port.now) (g.P.SessionPort.asked c.loop-packet.port)
    (out_view g.W.Write.contents c.args.outbox) (out_view g.W.Write.contents c.loop-packet.taken.outbox)) all c.loop-packet.invariant.0
