use Rattle.std.proofs.Common.{take}
use Rattle.sd_volume.specs.Device.{OnlyReads}
use Rattle.sd_readback.specs.Device.{HasVolumes}
use Rattle.sd_readback.proofs.SpanLemmas.{HasReadAll}
use Rattle.sd_readback.proofs.read.read_session.Given as goal

abbrev pub invariant-loop-span : goal.invariant-loop-span
invariant-loop-span g l =
    let old = g.D.Driver.meaning l.initial.driver in
    record {
      device : OnlyReads ⊥ old (g.D.Driver.meaning l.driver);
      read : HasReadAll l.fn.key (take l.span-index l.spans) l.reader (g.S.Sink.got l.initial.sink) (g.S.Sink.got l.sink) (HasVolumes old);
    }
