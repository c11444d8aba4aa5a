use Rattle.sd_volume.proofs.DeviceLemmas.{OnlyReads-trans, only_reads_call}
use Rattle.sd_salvage.proofs.span.salvage_span.Goals as goal

pub returns-clause-device : goal.returns-clause-device
returns-clause-device g c =
    let told = c.in-Ok.ensures in
    OnlyReads-trans _ _ _ _ _ (λ f. cc) (only_reads_call _ _ _ told.counts (λ e. cc) told.passes told.stable told.loaded told.same) c.salvage_part.ensures.device
