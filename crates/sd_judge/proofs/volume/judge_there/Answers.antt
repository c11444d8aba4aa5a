use Rattle.std.proofs.Common.{inl, inr, refl, sym, ap, ◌∙◌, arith, Ok}
use Rattle.std.proofs.lemmas.Bool.{cases_lt}
use Rattle.std.proofs.lemmas.Result.{err_from_is_err_and}
use Rattle.sd_volume.specs.Adopt.{IsLabelled}
use Rattle.sd_volume.proofs.DeviceLemmas.{only_reads_call, OnlyReads-trans, OnlyReads-as}
use Rattle.sd_judge.specs.Reading.{IsAt}
use Rattle.sd_judge.proofs.ReadingLemmas.{OnlyReads-again, stays}
use Rattle.sd_judge.proofs.volume.judge_there.Goals as goal

pub returns-in_err-found-clause-device : goal.returns-in_err-found-clause-device
returns-in_err-found-clause-device g c =
    let told = c.in_ok-size.ensures in
    let p = err_from_is_err_and c.from_residual-in_err-found.result c.from_residual-in_err-found.ensures.1 in
    rw (p.1, p.2) (OnlyReads-trans _ _ _ (g.D.Driver.meaning c.len.new.self) _ (λ f. cc)
    (only_reads_call (Ok c.in_ok-size.size) _ _ told.counts (λ e. cc) told.passes told.stable told.loaded told.same)
    (OnlyReads-again {T = _} c.in_err-found.field-0.0 _ _ c.in_err-found.ensures.device))

pub returns-in_default-clause-device : goal.returns-in_default-clause-device
returns-in_default-clause-device g c =
    let told = c.in_ok-size.ensures in
    OnlyReads-trans _ _ _ (g.D.Driver.meaning c.len.new.self) _ (λ f. cc)
    (only_reads_call (Ok c.in_ok-size.size) _ _ told.counts (λ e. cc) told.passes told.stable told.loaded told.same)
    (OnlyReads-as _ _ _ _ (λ f. cc) (λ f. cc) c.in_ok-found.ensures.device)

pub returns-in_err-judgement-clause-device : goal.returns-in_err-judgement-clause-device
returns-in_err-judgement-clause-device g c =
    let told = c.in_ok-size.ensures in
    let p = err_from_is_err_and c.from_residual-in_err-judgement.result c.from_residual-in_err-judgement.ensures.1 in
    rw (p.1, p.2) (OnlyReads-trans ⊥ _ _ (g.D.Driver.meaning c.read_label.new.driver) _ (λ f. f)
    (OnlyReads-trans _ _ _ (g.D.Driver.meaning c.len.new.self) _ (λ f. cc)
    (only_reads_call (Ok c.in_ok-size.size) _ _ told.counts (λ e. cc) told.passes told.stable told.loaded told.same)
    (OnlyReads-as _ _ _ _ (λ f. cc) (λ f. absurd f) c.in_ok-found.ensures.device))
    (OnlyReads-again {T = _} c.in_err-judgement.field-0.0 _ _ c.in_err-judgement.ensures.device))

pub returns-clause-device : goal.returns-clause-device
returns-clause-device g c =
    let told = c.in_ok-size.ensures in
    OnlyReads-trans ⊥ _ _ (g.D.Driver.meaning c.read_label.new.driver) _ (λ f. f)
    (OnlyReads-trans _ _ _ (g.D.Driver.meaning c.len.new.self) _ (λ f. cc)
    (only_reads_call (Ok c.in_ok-size.size) _ _ told.counts (λ e. cc) told.passes told.stable told.loaded told.same)
    (OnlyReads-as _ _ _ _ (λ f. cc) (λ f. absurd f) c.in_ok-found.ensures.device))
    (OnlyReads-as _ _ _ _ (λ f. cc) (λ f. cc) c.in_ok-judgement.ensures.device)

pub returns-clause-judged : goal.returns-clause-judged
returns-clause-judged g c = λ honest shows.
    let told = c.in_ok-size.ensures in
    let tells = told.ok honest in
    let held = tells.held in
    let shelf = (g.D.Driver.meaning c.args.driver.now).shelf in
    let label = c.in-Some.found.label in
    let first = only_reads_call (Ok c.in_ok-size.size) _ _ told.counts (λ e. cc) told.passes told.stable told.loaded told.same in
    let at_0 : IsAt held c.args.reader.now (g.D.Driver.meaning c.args.driver.now) = record { honest = honest; shows = shows; there = ap shelf.volume c.requires ∙ tells.there } in
    let at_1 : IsAt held c.args.reader.now (g.D.Driver.meaning c.len.new.self) =
    stays _ held c.args.reader.now c.args.reader.now _ _ at_0 first refl (λ other there. shows other (sym (told.same honest _) ∙ there)) in
    let read = c.in_ok-found.ensures in
    let at_2 : IsAt held c.read_label.new.reader (g.D.Driver.meaning c.read_label.new.driver) =
    stays _ held c.args.reader.now c.read_label.new.reader _ _ at_1 read.device read.name (read.shows at_1.honest at_1.shows) in
    let labelled : IsLabelled c.args.name.now held.bytes label = record {
      label_is = rw c.in-Some.is at read.label;
      name_is = rw c.in-Some.is at read.named;
      begins = rw c.in-Some.is at (read.begins at_1.honest at_1.shows held at_1.there);
    } in
    record {
      held = held;
      there = tells.there;
      label = labelled;
      judges = elim (cases_lt 68719476736 c.in_ok-size.size) [
        | inl long ↦ inr ((λ other ours. absurd (omega (arith, ours.most, tells.length_is, long))), c.in_ok-judgement.ensures.too_long long)
        | inr within ↦ inl (
          label,
          record { label_is = labelled.label_is; name_is = labelled.name_is; begins = labelled.begins; most = omega (arith, within, tells.length_is) },
          c.in_ok-judgement.ensures.judges within held at_2 tells.length_is,
        )
      ];
    }
