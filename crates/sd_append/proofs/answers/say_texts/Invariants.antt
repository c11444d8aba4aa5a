use Rattle.std.proofs.Common.{map, take}
use Rattle.sd_bnet.specs.Stream.{stream_of}
use Rattle.sd_bnet.specs.declared.packet.Packet.TheVariants.{Bytes}
use Rattle.sd_append.specs.Out.{PutsOut, out_view}
use Rattle.sd_append.proofs.answers.say_texts.Given as goal

abbrev pub invariant-loop-text : goal.invariant-loop-text
invariant-loop-text g l =
    PutsOut (out_view g.W.Write.contents l.initial.outbox) (out_view g.W.Write.contents l.outbox) (stream_of (map Bytes (take l.text-index l.texts)))
