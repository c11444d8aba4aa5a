use Rattle.sd_append.specs.Out.{out_view}
use Rattle.sd_append.specs.Talk.{span_said}
use Rattle.sd_append.proofs.TalkLemmas.{says_more}
use Rattle.sd_append.proofs.answers.say_spans.Goals as goal

pub loop-span-preserved : goal.loop-span-preserved
loop-span-preserved g c =
    says_more span_said c.args.spans.now c.loop-span.span-index c.span-item.result (out_view g.W.Write.contents c.args.outbox.now) (out_view g.W.Write.contents c.loop-span.outbox) (out_view g.W.Write.contents c.line.new.self)
    c.loop-span-test.true c.span-item.is c.loop-span.invariant c.line.ensures
