use Rattle.std.proofs.Common.{length}
use Rattle.sd_readback.proofs.ReaderLemmas.{HandedOver}
use Rattle.sd_readback.proofs.reader.Reader.hand_over.Given as goal

abbrev pub invariant-loop-rec : goal.invariant-loop-rec
invariant-loop-rec g l = HandedOver l.initial.self l.self (g.S.Sink.got l.initial.sink) (g.S.Sink.got l.sink)

abbrev pub decreases-loop-rec : goal.decreases-loop-rec
decreases-loop-rec g l = length l.self.unpacker.ready
