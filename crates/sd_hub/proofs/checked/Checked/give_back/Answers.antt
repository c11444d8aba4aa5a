use Rattle.std.proofs.Common.{refl}
use Rattle.sd_hub.proofs.checked.Checked.give_back.Goals as goal

pub returns-clause-why : goal.returns-clause-why
returns-clause-why g c = rw (← c.self.view_is) (c.know.ensures.side, (refl, c.self.invariant.passes.synced))
