use Rattle.sd_volume.proofs.DeviceLemmas.{OnlyReads-trans}
use Rattle.sd_judge.proofs.noted.judge_noted.Goals as goal

pub returns-clause-device : goal.returns-clause-device
returns-clause-device g c = OnlyReads-trans _ _ _ _ _ (λ f. cc) c.in_ok-stands_last.ensures.device c.judge_torn.ensures.device
