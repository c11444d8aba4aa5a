use Rattle.std.proofs.Common.{map, take}
use Rattle.sd_bnet.specs.Stream.{stream_of}
use Rattle.sd_append.specs.Out.{PutsOut, out_view}
use Rattle.sd_append.specs.Talk.{span_said}
use Rattle.sd_append.proofs.answers.say_spans.Given as goal

abbrev pub invariant-loop-span : goal.invariant-loop-span
invariant-loop-span g l =
    PutsOut (out_view g.W.Write.contents l.initial.outbox) (out_view g.W.Write.contents l.outbox) (stream_of (map span_said (take l.span-index l.spans)))
