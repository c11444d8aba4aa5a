use Rattle.std.proofs.Common.{ap, sym, ◌∙◌}
use Rattle.sd_lane.specs.Queue.{PlainView}
use Rattle.sd_lane.proofs.QueueLemmas.{take_is}
use Rattle.sd_lane.proofs.plain.PlainLanes.take.Goals as goal

pub returns-clause-first : goal.returns-clause-first
returns-clause-first c = (
  c.in_ok-queued.queued.lane,
  sym (ap (λ (v : PlainView). v.held) c.self.view_is) ∙ c.in_ok-queued.ensures.items,
  take_is _ _ c.in_ok-queued.queued _ _ c.self.view_is c.with.ensures,
)
