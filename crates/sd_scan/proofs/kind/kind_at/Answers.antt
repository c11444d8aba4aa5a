use Rattle.std.proofs.Common.{◌≡◌, ◌≤◌, drop, length, inr, ap, sym, ◌∙◌, subst, arith, Some}
use Rattle.std.specs.Prelude.{IsTrue}
use Rattle.std.proofs.lemmas.List.{length-drop}
use Rattle.std.proofs.lemmas.Result.{err_from_is_err_and}
use Rattle.sd_volume.proofs.DeviceLemmas.{OnlyReads-trans, OnlyReads-as}
use Rattle.sd_scan.specs.Kind.{IsKind}
use Rattle.sd_scan.proofs.KindLemmas.{head_kind, shown_kind}
use Rattle.sd_scan.proofs.kind.kind_at.Goals as goal

pub returns-in-Err-clause-kind : goal.returns-in-Err-clause-kind
returns-in-Err-clause-kind g c = λ honest shows held there size.
    let first = c.in_ok-fill.ensures in
    let volume = (g.D.Driver.meaning c.fill.new.driver).shelf.volume in
    let there_1 : volume c.fill.new.self.name ≡ Some held = ap volume first.name ∙ (first.device.same honest _ ∙ there) in
    let front = c.shown.ensures.shown ∙ first.shown honest shows held there_1 in
    let rest = drop c.args.at held.bytes in
    subst (IsKind rest) (sym c.kind_of.ensures)
    (head_kind rest c.in-Err.fault
    (λ e. rw front at (c.in-Err.ensures.short.0 e))
    (λ e. rw front at (c.in-Err.ensures.bad_id.0 e))
    (λ e. rw front at (c.in-Err.ensures.bad_size.0 e))
    c.in-Err.ensures.no_sum)

pub returns-then-head-size-clause-kind : goal.returns-then-head-size-clause-kind
returns-then-head-size-clause-kind g c = λ honest shows held there size.
    let first = c.in_ok-fill.ensures in
    let volume = (g.D.Driver.meaning c.fill.new.driver).shelf.volume in
    let there_1 : volume c.fill.new.self.name ≡ Some held = ap volume first.name ∙ (first.device.same honest _ ∙ there) in
    let front = c.shown.ensures.shown ∙ first.shown honest shows held there_1 in
    let rest = drop c.args.at held.bytes in
    inr (c.in-Ok.head, rw front at c.in-Ok.ensures.head, omega (arith, length-drop c.args.at held.bytes, size, c.if-head-size.true))

pub returns-in_err-fill-2-clause-device : goal.returns-in_err-fill-2-clause-device
returns-in_err-fill-2-clause-device g c =
    let p = err_from_is_err_and c.from_residual-in_err-fill-2.result c.from_residual-in_err-fill-2.ensures.1 in
    rw (p.1, p.2) (OnlyReads-trans _ _ _ _ _ (λ f. cc) c.in_ok-fill.ensures.device (OnlyReads-as _ _ _ _ (λ f. cc) (λ f. cc) c.in_err-fill-2.ensures.device))

pub returns-in_err-fill-2-clause-shows : goal.returns-in_err-fill-2-clause-shows
returns-in_err-fill-2-clause-shows g c = λ honest shows.
    let first = c.in_ok-fill.ensures in
    c.in_err-fill-2.ensures.shows (subst IsTrue (sym first.device.counted.honest) honest) (first.shows honest shows)

pub returns-clause-device : goal.returns-clause-device
returns-clause-device g c =
    OnlyReads-trans _ _ _ _ _ (λ f. cc) c.in_ok-fill.ensures.device (OnlyReads-as _ _ _ _ (λ f. cc) (λ f. cc) c.in_ok-fill-2.ensures.device)

pub returns-clause-kind : goal.returns-clause-kind
returns-clause-kind g c = λ honest shows held there size.
    let first = c.in_ok-fill.ensures in
    let second = c.in_ok-fill-2.ensures in
    let honest_still = subst IsTrue (sym first.device.counted.honest) honest in
    let volume_1 = (g.D.Driver.meaning c.fill.new.driver).shelf.volume in
    let volume_2 = (g.D.Driver.meaning c.fill-2.new.driver).shelf.volume in
    let there_1 : volume_1 c.fill.new.self.name ≡ Some held = ap volume_1 first.name ∙ (first.device.same honest _ ∙ there) in
    let there_2 : volume_2 c.fill-2.new.self.name ≡ Some held = ap volume_2 second.name ∙ (second.device.same honest_still _ ∙ there_1) in
    let front = c.shown.ensures.shown ∙ first.shown honest shows held there_1 in
    let shown = c.shown-2.ensures.shown ∙ second.shown honest_still (first.shows honest shows) held there_2 in
    let rest = drop c.args.at held.bytes in
    let within : c.in-Ok.head.size ≤ length rest = omega (arith, length-drop c.args.at held.bytes, size, c.if-head-size.false) in
    shown_kind rest c.shown-2.result.now c.in-Ok.head _ (rw front at c.in-Ok.ensures.head) shown within c.kind_of_whole.ensures
