use Rattle.std.proofs.Common.{◌≡◌, ℕ, [], inl, inr, refl, sym, ap, ◌∙◌, subst, arith, Some, Option}
use Rattle.std.specs.Prelude.{IsTrue}
use Rattle.std.proofs.lemmas.Result.{err_from_is_err_and}
use Rattle.sd_volume.proofs.DeviceLemmas.{OnlyReads-trans, OnlyReads-as}
use Rattle.sd_volume.specs.declared.survey.Labelled.{Labelled}
use Rattle.sd_scan.proofs.FaultLemmas.{OnlyReads-again, OnlyReads-scan}
use Rattle.sd_scan.proofs.RunLemmas.{finds_image, keeps_none}
use Rattle.sd_scan.proofs.volumes.take_image.Goals as goal

pub take_run-requires-clause-start : goal.take_run-requires-clause-start
take_run-requires-clause-start g c = omega (arith, rw c.in-Some.is at c.in_ok-found.ensures.within)

pub returns-in_err-found-clause-device : goal.returns-in_err-found-clause-device
returns-in_err-found-clause-device g c =
    let p = err_from_is_err_and c.from_residual.result c.from_residual.ensures.1 in
    rw (p.1, p.2) (OnlyReads-scan {T = Option Labelled} c.in_err-found.field-0.0 _ _ c.in_err-found.ensures.faults c.in_err-found.ensures.device)

pub returns-in_default-clause-device : goal.returns-in_default-clause-device
returns-in_default-clause-device g c = OnlyReads-as _ _ _ _ (λ f. cc) (λ f. cc) c.in_ok-found.ensures.device

pub returns-in_default-clause-takes : goal.returns-in_default-clause-takes
returns-in_default-clause-takes g c = (
  [],
  keeps_none c.args.sessions.now,
  λ honest shows held there size. inr (rw c.in_default.is at (c.in_ok-found.ensures.not_ours honest shows held there size), refl, refl),
)

pub returns-in_err-end-clause-device : goal.returns-in_err-end-clause-device
returns-in_err-end-clause-device g c =
    let p = err_from_is_err_and c.from_residual-in_err-end.result c.from_residual-in_err-end.ensures.1 in
    rw (p.1, p.2) (OnlyReads-trans _ _ _ (g.D.Driver.meaning c.read_label.new.driver) _ (λ f. cc) c.in_ok-found.ensures.device
    (OnlyReads-again {T = ℕ} c.in_err-end.field-0.0 _ _ c.in_err-end.ensures.device))

pub returns-clause-name : goal.returns-clause-name
returns-clause-name g c = c.take_run.ensures.name ∙ c.in_ok-found.ensures.name

pub returns-clause-device : goal.returns-clause-device
returns-clause-device g c =
    OnlyReads-trans _ _ _ (g.D.Driver.meaning c.read_label.new.driver) _ (λ f. cc) c.in_ok-found.ensures.device (OnlyReads-as _ _ _ _ (λ f. cc) (λ f. cc) c.in_ok-end.ensures.device)

pub returns-clause-takes : goal.returns-clause-takes
returns-clause-takes g c =
    let read = c.in_ok-found.ensures in
    let found = c.in-Some.found in
    let volume = (g.D.Driver.meaning c.read_label.new.driver).shelf.volume in
    let takes = c.in_ok-end.ensures.takes in (
      takes.0,
      takes.1,
      λ honest shows held there size. (
          let honest_1 = subst IsTrue (sym read.device.counted.honest) honest in
          let there_1 : volume c.read_label.new.reader.name ≡ Some held = ap volume read.name ∙ (read.device.same honest _ ∙ there) in
          let run = takes.2 honest_1 (read.shows honest shows) held there_1 size in
          inl (finds_image c.args.name.now held.bytes found.label found.first c.in_ok-end.end takes.0 run.0 (rw c.in-Some.is at read.label) (rw c.in-Some.is at read.named) (rw c.in-Some.is at read.first)
          (rw c.in-Some.is at (read.begins honest shows held there)) run.1 run.2)
          ),
    )

pub returns-clause-shows : goal.returns-clause-shows
returns-clause-shows g c = λ honest shows.
    let read = c.in_ok-found.ensures in
    c.in_ok-end.ensures.shows (subst IsTrue (sym read.device.counted.honest) honest) (read.shows honest shows)
