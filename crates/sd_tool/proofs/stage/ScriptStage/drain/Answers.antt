use Rattle.std.proofs.Common.{ap, subst, ◌∙◌}
use Rattle.std.specs.Prelude.{IfOk, OnErr}
use Rattle.sd_core.specs.Rounds.{Drains, PlaysMoving}
use Rattle.sd_drive.specs.declared.limits.Limits.{Limits}
use Rattle.sd_tool.specs.ScriptStage.{StageView}
use Rattle.sd_tool.proofs.StageLemmas.{drain_stays}
use Rattle.sd_tool.proofs.stage.ScriptStage.drain.Goals as goal

pub invariant_of-self : goal.invariant_of-self
invariant_of-self g c =
    let stay = drain_stays (λ d. g.D.Driver.meaning d) c.drain.result c.self.inside.world c.drain.new.world c.drain.ensures.drains c.drain.ensures.err in
    let i = c.self.invariant in
    (record { fits = i.0.fits; online = λ r. stay.flags ∙ i.0.online r }, ap (λ (l : Limits). l.time) stay.limits ∙ i.1)

pub returns-clause-drains : goal.returns-clause-drains
returns-clause-drains g c =
    let Plays : StageView g.row.D.Denot → Type 0 = λ s. IfOk c.drain.result (λ placed. Drains (λ d. g.D.Driver.meaning d) s.world placed c.drain.new.world) in
    subst Plays c.self.view_is c.drain.ensures.drains

pub returns-clause-err : goal.returns-clause-err
returns-clause-err g c =
    let Plays : StageView g.row.D.Denot → Type 0 = λ s. OnErr c.drain.result (PlaysMoving (λ d. g.D.Driver.meaning d) s.world c.drain.new.world) in
    subst Plays c.self.view_is c.drain.ensures.err
