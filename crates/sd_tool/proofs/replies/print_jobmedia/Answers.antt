use Rattle.sd_text.specs.Says.{said_view}
use Rattle.sd_tool.proofs.TranscriptLemmas.{one_span_more}
use Rattle.sd_tool.proofs.replies.print_jobmedia.Goals as goal

pub loop-span-preserved : goal.loop-span-preserved
loop-span-preserved g c =
    one_span_more c.args.key c.args.spans.now c.loop-span.span-index c.span-item.result (said_view g.W.Write.contents c.args.out.now) (said_view g.W.Write.contents c.loop-span.out)
    (said_view g.W.Write.contents c.line-in-loop-span.new.self) c.loop-span-test.true c.span-item.is c.loop-span.invariant c.line-in-loop-span.ensures.says
