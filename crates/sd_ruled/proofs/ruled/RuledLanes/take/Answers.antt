use Rattle.std.proofs.Common.{ap, sym, ◌∙◌}
use Rattle.sd_ruled.specs.Passes.{PassView}
use Rattle.sd_ruled.specs.Seats.{RuledView}
use Rattle.sd_ruled.proofs.Steps.{gets, learns}
use Rattle.sd_ruled.proofs.Views.{owner_took}
use Rattle.sd_ruled.proofs.ruled.RuledLanes.take.Goals as goal

pub pop_as-requires-clause-rule : goal.pop_as-requires-clause-rule
pop_as-requires-clause-rule g c = (gets _ _ c.self.inside.lanes c.self.invariant.alone, learns _ _)

pub returns-in-Some-clause-first : goal.returns-in-Some-clause-first
returns-in-Some-clause-first g c =
    let r = c.in-Some.ensures.rule in (
      c.in-Some.field-0.lane,
      sym (ap (λ (v : RuledView). v.held) c.self.view_is) ∙ r.front,
      owner_took c.self.inside.ring.table.shared.table_id c.self.inside.lanes c.self.inside.ring.cap c.self.inside.pass.me.0.client c.pop_as.new.pass.me.0.client c.in-Some.field-0 c.args.self.now c.self.view_is (ap (λ (v : PassView). v.taken) r.now),
    )
