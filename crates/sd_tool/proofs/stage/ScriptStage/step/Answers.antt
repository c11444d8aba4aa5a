use Rattle.std.proofs.Common.{ap, subst, ◌∙◌}
use Rattle.sd_drive.specs.declared.limits.Limits.{Limits}
use Rattle.sd_driver.specs.Meaning.{Meaning}
use Rattle.sd_world.specs.Steps.{IsStep}
use Rattle.sd_tool.specs.ScriptStage.{StageView}
use Rattle.sd_tool.proofs.StageLemmas.{moves_limits, moves_online, retired_other}
use Rattle.sd_tool.proofs.stage.ScriptStage.step.Goals as goal

pub invariant_of-self-in_default : goal.invariant_of-self-in_default
invariant_of-self-in_default g c =
    let M : g.row.D.Denot → Meaning = λ d. g.D.Driver.meaning d in
    let old = c.self.inside.world in
    let new = c.step-reply.new.self in
    let event = c.args.event in
    let reply = c.step-reply.result in
    let moves = c.step-reply.ensures.moves in
    let i = c.self.invariant in (
      record { fits = i.0.fits; online = λ r. moves_online M old new event reply c.in_default.not-Retired moves ∙ i.0.online r },
      ap (λ (l : Limits). l.time) (moves_limits M old new event reply moves) ∙ i.1,
    )

pub returns-in_default : goal.returns-in_default
returns-in_default g c =
    let Step : StageView g.row.D.Denot → Type 0 = λ s. IsStep (λ d. g.D.Driver.meaning d) s.world c.args.event c.step-reply.result c.step-reply.new.self in (
      subst Step c.self.view_is c.step-reply.ensures,
      ap (λ (s : StageView g.row.D.Denot). s.values) c.self.view_is,
      ap (λ (s : StageView g.row.D.Denot). s.retired) c.self.view_is ∙ retired_other c.step-reply.result c.args.self.now.retired c.in_default.not-Retired,
    )
