use Rattle.std.proofs.Common.{List, ℕ, sym, subst}
use Rattle.sd_text.specs.Says.{SendsUpTo}
use Rattle.sd_text.proofs.SaysLemmas.{sends_none, sends_more}
use Rattle.sd_text.proofs.write.write_all.Goals as goal

pub loop-rest-init : goal.loop-rest-init
loop-rest-init g c = sends_none _ _

pub loop-rest-preserved : goal.loop-rest-preserved
loop-rest-preserved g c =
    subst (λ (rest : List ℕ). SendsUpTo (g.W.Write.contents c.args.writer.now) (g.W.Write.contents c.write.new.self) c.args.bytes.now rest) (sym c.split_at.ensures.back)
    (sends_more _ (g.W.Write.contents c.loop-rest.writer) _ _ c.loop-rest.rest.now c.in-Ok.count c.loop-rest.invariant c.in-Ok.ensures.bytes)
