use Rattle.std.proofs.Common.{sym, ap, ◌∙◌, subst, length, Ok}
use Rattle.std.specs.Prelude.{IsTrue}
use Rattle.std.proofs.lemmas.Result.{IfErr-weaker}
use Rattle.sd_driver.specs.Shelf.{Held}
use Rattle.sd_volume.proofs.DeviceLemmas.{only_reads_call, OnlyReads-trans}
use Rattle.sd_volume.proofs.DueLemmas.{same_held}
use Rattle.sd_volume.proofs.NotedLemmas.{IsTrusted-same, due_same}
use Rattle.sd_volume.proofs.adoption.survey.Goals as goal

pub returns-clause-device : goal.returns-clause-device
returns-clause-device g c =
    let clauses = c.in_ok-size.ensures in
    OnlyReads-trans _ _ _ (g.D.Driver.meaning c.len.new.self) _ (λ f. cc) (only_reads_call (Ok c.in_ok-size.size) _ _ clauses.counts (λ e. cc) clauses.passes clauses.stable clauses.loaded clauses.same) c.find_volume.ensures.device

pub returns-clause-adoptable : goal.returns-clause-adoptable
returns-clause-adoptable g c = λ honest shows trusted held there.
    let len = c.in_ok-size.ensures in
    let name = c.args.name.now in
    let shelf = (g.D.Driver.meaning c.args.driver.now).shelf in
    let mid = (g.D.Driver.meaning c.len.new.self).shelf in
    let told = len.ok honest in
    let whole = told.length_is ∙ ap (λ (h : Held). length h.bytes) (same_held shelf name told.held held told.there there) in
    c.find_volume.ensures.adoptable (subst IsTrue (sym len.counts.honest) honest) (λ h here. shows h (sym (len.same honest _) ∙ here))
    (IsTrusted-same c.args.note name c.args.start_time shelf mid (len.same honest) trusted) held (len.same honest name ∙ there) whole

pub returns-clause-due : goal.returns-clause-due
returns-clause-due g c = λ honest shows trusted.
    let len = c.in_ok-size.ensures in
    let name = c.args.name.now in
    let shelf = (g.D.Driver.meaning c.args.driver.now).shelf in
    let mid = (g.D.Driver.meaning c.len.new.self).shelf in
    let told = len.ok honest in
    IfErr-weaker c.find_volume.result _ _ (λ fault due a b. due_same fault name c.args.media.now c.args.start_time shelf mid (len.same honest) (due a b))
    (c.find_volume.ensures.due (subst IsTrue (sym len.counts.honest) honest) (λ h here. shows h (sym (len.same honest _) ∙ here))
    (IsTrusted-same c.args.note name c.args.start_time shelf mid (len.same honest) trusted) told.held (len.same honest name ∙ told.there) told.length_is)
