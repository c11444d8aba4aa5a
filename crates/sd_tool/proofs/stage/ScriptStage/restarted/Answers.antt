use Rattle.std.proofs.Common.{rules, ◌≡◌, false, None, List, refl, sym, ap, subst, length, ◌∙◌}
use Rattle.sd_core.specs.View.{devices_of}
use Rattle.sd_driver.specs.Meaning.{Meaning}
use Rattle.sd_tool.specs.Making.{StartsAs}
use Rattle.sd_tool.specs.Restart.{IsThere, unfit}
use Rattle.sd_tool.specs.Settings.{ValuesView, capacity_for, drive_count}
use Rattle.sd_tool.specs.ScriptStage.{StageView}
use Rattle.sd_tool.proofs.DoingLemmas.{none_of}
use Rattle.sd_tool.proofs.StageLemmas.{devices_long, handed_as, hands_on_long, restarts_anew, tail_there, unfit_none}
use Rattle.sd_tool.proofs.stage.ScriptStage.restarted.Goals as goal

pub append_tail-refused-requires-after_bounds : goal.append_tail-refused-requires-after_bounds
append_tail-refused-requires-after_bounds g c κs within =
    let inside = c.self.inside in
    let tail = c.args.restart.tail in
    let offline = unfit_none (drive_count c.args.self.values) c.args.self.retired tail c.unfit.result c.unfit.ensures c.in_default.not-Some in
    let online : inside.retired ≡ false = ap (λ s. s.retired) c.self.view_is ∙ offline in
    let none : unfit (drive_count c.args.self.values) c.args.self.retired tail ≡ None = sym c.unfit.ensures ∙ none_of c.unfit.result c.in_default.not-Some in
    let there = tail_there (drive_count c.args.self.values) c.args.self.retired tail none in
    let many = ap length c.in-Ok-into_drivers.ensures.ok ∙ devices_long inside.world.bays (drive_count inside.values) (c.self.invariant.0.online online) ∙ ap (λ (s : StageView g.row.D.Denot). drive_count s.values) c.self.view_is in
    subst (λ n. IsThere n tail) (sym many) there

pub into_world-requires-clause-drivers : goal.into_world-requires-clause-drivers
into_world-requires-clause-drivers g c =
    let M : g.row.D.Denot → Meaning = λ d. g.D.Driver.meaning d in
    let inside = c.self.inside in
    let offline = unfit_none (drive_count c.args.self.values) c.args.self.retired c.args.restart.tail c.unfit.result c.unfit.ensures c.in_default.not-Some in
    let none : inside.retired ≡ false = ap (λ s. s.retired) c.self.view_is ∙ offline in
    let many : length c.append_tail-refused.new.drivers.items ≡ drive_count inside.values =
    hands_on_long M (capacity_for inside.values) c.args.restart.tail c.append_tail-refused.result _ c.append_tail-refused.new.drivers.items c.append_tail-refused.ensures ∙ ap length c.in-Ok-into_drivers.ensures.ok
    ∙ devices_long inside.world.bays (drive_count inside.values) (c.self.invariant.0.online none) in
    search rules

pub returns : goal.returns
returns g c =
    let M : g.row.D.Denot → Meaning = λ d. g.D.Driver.meaning d in
    let old = c.args.self in
    let tail = c.args.restart.tail in
    let inside = c.self.inside in
    let devices = c.append_tail-refused.new.drivers.items in
    let none : unfit (drive_count old.values) old.retired tail ≡ None = sym c.unfit.ensures ∙ none_of c.unfit.result c.in_default.not-Some in
    let before = c.in-Ok-into_drivers.ensures.ok ∙ ap (λ (s : StageView g.row.D.Denot). devices_of s.world.bays) c.self.view_is in
    let values = ap (λ (s : StageView g.row.D.Denot). s.values) c.self.view_is in
    restarts_anew M old c.args.restart _ _ none (record {
      values = values;
      retired = refl;
      devices = devices;
      handed_on = handed_as M inside.values old.values tail c.append_tail-refused.result _ _ devices values before c.append_tail-refused.ensures;
      starts = subst (λ (v : ValuesView). StartsAs M v c.args.restart.time devices c.in_ok-world.world) values c.in_ok-world.ensures;
    })
