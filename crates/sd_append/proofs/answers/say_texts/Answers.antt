use Rattle.std.proofs.Common.{List, ℕ, subst}
use Rattle.sd_bnet.specs.Packet.{packet_bytes}
use Rattle.sd_bnet.specs.declared.packet.Packet.TheVariants.{Bytes}
use Rattle.sd_append.specs.Out.{PutsOut, out_view}
use Rattle.sd_append.proofs.TalkLemmas.{says_more}
use Rattle.sd_append.proofs.answers.say_texts.Goals as goal

pub loop-text-preserved : goal.loop-text-preserved
loop-text-preserved g c =
    says_more Bytes c.args.texts.now c.loop-text.text-index c.text-item.result (out_view g.W.Write.contents c.args.outbox.now) (out_view g.W.Write.contents c.loop-text.outbox) (out_view g.W.Write.contents c.packet.new.self)
    c.loop-text-test.true c.text-item.is c.loop-text.invariant
    (subst (λ (bytes : List ℕ). PutsOut (out_view g.W.Write.contents c.loop-text.outbox) (out_view g.W.Write.contents c.packet.new.self) (packet_bytes (Bytes bytes))) c.as_slice.ensures.bytes c.packet.ensures)
