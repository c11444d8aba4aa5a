use Rattle.std.proofs.Common.{inr, ap, sym, subst, ◌∙◌}
use Rattle.sd_core.specs.Rounds.{PlaysMoving}
use Rattle.sd_tool.specs.ScriptStage.{StageView}
use Rattle.sd_tool.proofs.run.Script.drain.Goals as goal

pub returns-in-Err : goal.returns-in-Err
returns-in-Err g c =
    let prints = c.refuse.ensures in
    let stage = prints.0 in
    let keeps = c.drain.ensures.keeps in
    let Moving : StageView g.row.D.Denot → Type 0 = λ s. PlaysMoving (λ d. g.D.Driver.meaning d) c.args.self.now.stage.world s.world in (
      (ap (λ (s : StageView g.row.D.Denot). s.values) stage ∙ keeps.0, ap (λ (s : StageView g.row.D.Denot). s.retired) stage ∙ keeps.1),
      prints.1,
      inr (subst Moving (sym stage) c.in-Err.ensures.err, prints.2),
    )
