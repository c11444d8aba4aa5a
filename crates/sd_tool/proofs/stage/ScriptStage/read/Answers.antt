use Rattle.std.proofs.Common.{ap, subst, ◌∙◌}
use Rattle.sd_world.specs.Deeds.{IsRead}
use Rattle.sd_drive.specs.declared.limits.Limits.{Limits}
use Rattle.sd_tool.specs.ScriptStage.{StageView}
use Rattle.sd_tool.proofs.StageLemmas.{reads_stay}
use Rattle.sd_tool.proofs.stage.ScriptStage.read.Goals as goal

pub invariant_of-self : goal.invariant_of-self
invariant_of-self g c =
    let stay = reads_stay (λ d. g.D.Driver.meaning d) c.args.key c.args.spans.now (g.K.Sink.got c.args.sink.now) (g.K.Sink.got c.read.new.sink) c.read.result
    c.self.inside.world c.read.new.self c.read.ensures in
    let i = c.self.invariant in
    (record { fits = i.0.fits; online = λ r. stay.flags ∙ i.0.online r }, ap (λ (l : Limits). l.time) stay.limits ∙ i.1)

pub returns : goal.returns
returns g c =
    let Reads : StageView g.row.D.Denot → Type 0 = λ s. IsRead (λ d. g.D.Driver.meaning d) c.args.key c.args.spans.now (g.K.Sink.got c.args.sink.now)
    (g.K.Sink.got c.read.new.sink) c.read.result s.world c.read.new.self in
    record {
      reads = subst Reads c.self.view_is c.read.ensures;
      keeps = (ap (λ (s : StageView g.row.D.Denot). s.values) c.self.view_is, ap (λ (s : StageView g.row.D.Denot). s.retired) c.self.view_is);
    }
