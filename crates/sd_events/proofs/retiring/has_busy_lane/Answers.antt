use Rattle.std.proofs.Common.{refl, ◌∙◌}
use Rattle.sd_events.proofs.UsingLemmas.{busy_told}
use Rattle.sd_events.proofs.retiring.has_busy_lane.Goals as goal

pub returns : goal.returns
returns g c = busy_told _ c.contains.result _ _ c.contains.ensures.value (c.as_slice.ensures.value ∙ c.free_lanes-free.ensures) refl refl
