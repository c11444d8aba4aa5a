use Rattle.std.proofs.Common.{refl, sym, ap, subst, ◌∙◌, None, true≢false}
use Rattle.std.specs.Prelude.{option_map}
use Rattle.std.proofs.lemmas.Result.{IfOk-weaker}
use Rattle.sd_unpack.specs.Damage.{Continues}
use Rattle.sd_collect.specs.Collect.{due_in}
use Rattle.sd_collect.proofs.CollectLemmas.{due_same, goes_begun, goes_further, goes_past}
use Rattle.sd_collect.proofs.collector.Collector.take.Goals.{in_default-via-in-Some+else-continues, in_default-via-in_default}
use Rattle.sd_collect.proofs.collector.Collector.take.Goals as goal

pub returns-then-begins : goal.returns-then-begins
returns-then-begins c =
    IfOk-weaker c.begin.result _ _ (λ rec takes. goes_begun c.args.self.now c.begin.new.self c.args.fragment.now rec (c.if-begins.ensures.0 refl) takes) c.begin.ensures

pub returns-in-Some : goal.returns-in-Some
returns-in-Some c =
    IfOk-weaker c.go_on.result _ _ (λ rec takes. goes_further c.args.self.now c.go_on.new.self c.args.fragment.now rec takes) c.go_on.ensures

pub returns-in_default : goal.returns-in_default
returns-in_default c = goes_past c.args.self.now (record c.args.self.now { due = None }) c.args.fragment.now (λ begins. true≢false (sym (c.if-begins.ensures.1 begins)))
    (λ due is goes. elim c.in_default.branch [
      | in_default-via-in-Some+else-continues w ↦ true≢false (sym (w.if-continues.ensures.1 (subst (λ d. Continues d c.args.fragment.now) (due_same c.self.inside.due _ due (w.in-Some.is) (ap (λ v. v.due) c.self.view_is ∙ is)) goes)))
      | in_default-via-in_default w ↦ cc (sym (ap (option_map due_in) w.in_default.is) ∙ ap (λ v. v.due) c.self.view_is ∙ is)
    ])
    refl
