use Rattle.std.proofs.Common.{take}
use Rattle.sd_text.specs.Says.{Says, said_view}
use Rattle.sd_span.specs.JobMedia.{jobmedia_text}
use Rattle.sd_tool.proofs.replies.print_jobmedia.Given as goal

-- the lines of the spans so far
abbrev pub invariant-loop-span : goal.invariant-loop-span
invariant-loop-span g l = Says (said_view g.W.Write.contents l.fn.out) (said_view g.W.Write.contents l.out) (jobmedia_text l.fn.key (take l.span-index l.spans))
