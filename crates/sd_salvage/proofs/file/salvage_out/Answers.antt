use Rattle.std.proofs.Common.{subst, sym}
use Rattle.sd_text.specs.Says.{said_view}
use Rattle.sd_readback.specs.Reading.{Reads, volumes_on}
use Rattle.sd_salvage.proofs.PrinterLemmas.{whole_says}
use Rattle.sd_salvage.proofs.file.salvage_out.Goals as goal

pub returns-clause-whole : goal.returns-clause-whole
returns-clause-whole g c = λ honest records ended few small reads.
    whole_says g.K.Before.before (said_view g.W.Write.contents c.end-out.result) c.new-sink.result.told c.salvage-result.new.sink.told c.end-out.ensures.0 c.salvage-result.result records ended few small c.new-sink.ensures c.end-out.ensures.1 c.end-out.ensures.2
    (c.salvage-result.ensures.whole honest records ended (subst (λ spans. Reads (volumes_on (g.D.Driver.meaning c.args.driver.now).shelf) c.args.read.now.key spans records ended) (sym c.as_slice.ensures) reads))
