use Rattle.std.proofs.Common.{◌≡◌, ◌-◌, [], ◌++◌, ℕ, ap, sym, ◌∙◌, subst, arith, inl, refl, Option, Some, Ok, Err}
use Rattle.std.specs.Prelude.{IsTrue}
use Rattle.std.proofs.lemmas.List.{append_assoc}
use Rattle.std.proofs.lemmas.Result.{err_from_is_err_and}
use Rattle.sd_text.specs.Lines.{line}
use Rattle.sd_volume.proofs.DeviceLemmas.{OnlyReads-trans, OnlyReads-as, only_reads_call}
use Rattle.sd_volume.proofs.ImageLemmas.{label_block-least}
use Rattle.sd_volume.specs.Adopt.{IsLabelled}
use Rattle.sd_volume.specs.declared.survey.Labelled.{Labelled}
use Rattle.sd_files.specs.Listing.{label_text, tail_text}
use Rattle.sd_text.specs.Says.{said_view}
use Rattle.sd_text.proofs.SaysLemmas.{says_none, says_then}
use Rattle.sd_files.proofs.ListingLemmas.{fault_is, form_front, form_given_up, form_none, OnlyReads-listing, lists_none, lists_given_up, lists_front, lists_whole, there_and_gone}
use Rattle.sd_files.proofs.listing.list.Goals as goal

pub list_blocks-requires-clause-least : goal.list_blocks-requires-clause-least
list_blocks-requires-clause-least g c = omega (arith, rw c.in-Some.is at c.in_ok-found.ensures.first, label_block-least c.in-Some.found.label)

pub returns-in_err-size-clause-device : goal.returns-in_err-size-clause-device
returns-in_err-size-clause-device g c =
    let p = err_from_is_err_and c.from_residual.result c.from_residual.ensures.1 in
    let len = c.in_err-size.ensures in
    rw (p.1, p.2) (OnlyReads-listing {T = ℕ} c.in_err-size.field-0.0 _ _ len.faults (only_reads_call (Err c.in_err-size.field-0.0) _ _ len.counts (λ e. len.faults.1 (fault_is e)) len.passes len.stable len.loaded len.same))

pub returns-in_err-size-clause-lists : goal.returns-in_err-size-clause-lists
returns-in_err-size-clause-lists g c =
    let p = err_from_is_err_and c.from_residual.result c.from_residual.ensures.1 in
    let len = c.in_err-size.ensures in
    let shelf = (g.D.Driver.meaning c.args.driver.now).shelf in
    rw (p.1, p.2) ([], says_none _, form_none c.args.name.now c.in_err-size.field-0.0, λ honest. lists_none c.args.name.now (shelf.volume c.args.name.now) c.in_err-size.field-0.0 len.faults (λ e. len.not_there honest (ap Err e)))

pub returns-in_err-reader-clause-device : goal.returns-in_err-reader-clause-device
returns-in_err-reader-clause-device g c =
    let p = err_from_is_err_and c.from_residual-in_err-reader.result c.from_residual-in_err-reader.ensures.1 in
    let len = c.in_ok-size.ensures in
    rw (p.1, p.2) (OnlyReads-as _ _ _ _ (λ f. cc) (λ f. cc) (only_reads_call (Ok c.in_ok-size.size) _ _ len.counts (λ e. cc) len.passes len.stable len.loaded len.same))

pub returns-in_err-reader-clause-lists : goal.returns-in_err-reader-clause-lists
returns-in_err-reader-clause-lists g c =
    let p = err_from_is_err_and c.from_residual-in_err-reader.result c.from_residual-in_err-reader.ensures.1 in
    rw (p.1, p.2) ([], says_none _, inl refl, λ honest. inl refl)

pub returns-in_err-found-clause-device : goal.returns-in_err-found-clause-device
returns-in_err-found-clause-device g c =
    let p = err_from_is_err_and c.from_residual-in_err-found.result c.from_residual-in_err-found.ensures.1 in
    let len = c.in_ok-size.ensures in
    let one = only_reads_call (Ok c.in_ok-size.size) _ _ len.counts (λ e. cc) len.passes len.stable len.loaded len.same in
    rw (p.1, p.2) (OnlyReads-trans _ _ _ (g.D.Driver.meaning c.len.new.self) _ (λ f. cc) one (OnlyReads-listing {T = Option Labelled} c.in_err-found.field-0.0 _ _ c.in_err-found.ensures.faults c.in_err-found.ensures.device))

pub returns-in_err-found-clause-lists : goal.returns-in_err-found-clause-lists
returns-in_err-found-clause-lists g c =
    let p = err_from_is_err_and c.from_residual-in_err-found.result c.from_residual-in_err-found.ensures.1 in
    let len = c.in_ok-size.ensures in
    let read = c.in_err-found.ensures in
    let start = (g.D.Driver.meaning c.args.driver.now).shelf in
    let mid = (g.D.Driver.meaning c.len.new.self).shelf in
    rw (p.1, p.2) (
      [],
      says_none _,
      form_none c.args.name.now c.in_err-found.field-0.0,
      λ honest. (
          let tells = len.ok honest in
          let honest_1 = subst IsTrue (sym len.counts.honest) honest in
          let there_1 : mid.volume c.in_ok-reader.reader.name ≡ Some tells.held = ap mid.volume c.in_ok-reader.ensures.name ∙ (len.same honest _ ∙ tells.there) in
          lists_none c.args.name.now (start.volume c.args.name.now) c.in_err-found.field-0.0 read.faults
          (λ e. absurd (there_and_gone (read.not_there honest_1 (ap Err e)) there_1))
          ),
    )

pub returns-in_default-clause-device : goal.returns-in_default-clause-device
returns-in_default-clause-device g c =
    let len = c.in_ok-size.ensures in
    let one = only_reads_call (Ok c.in_ok-size.size) _ _ len.counts (λ e. cc) len.passes len.stable len.loaded len.same in
    OnlyReads-trans _ _ _ (g.D.Driver.meaning c.len.new.self) _ (λ f. cc) one (OnlyReads-as _ _ _ _ (λ f. cc) (λ f. cc) c.in_ok-found.ensures.device)

pub returns-in_default-clause-lists : goal.returns-in_default-clause-lists
returns-in_default-clause-lists g c =
    let len = c.in_ok-size.ensures in
    let mid = (g.D.Driver.meaning c.len.new.self).shelf in (
      [],
      says_none _,
      refl,
      λ honest. (
          let tells = len.ok honest in
          let honest_1 = subst IsTrue (sym len.counts.honest) honest in
          let there_1 : mid.volume c.in_ok-reader.reader.name ≡ Some tells.held = ap mid.volume c.in_ok-reader.ensures.name ∙ (len.same honest _ ∙ tells.there) in
          (refl, (tells.held, tells.there, rw c.in_default.is at (c.in_ok-found.ensures.not_ours honest_1 (c.in_ok-reader.ensures.shows mid) tells.held there_1 tells.length_is)))
          ),
    )

pub returns-in_err-end-clause-device : goal.returns-in_err-end-clause-device
returns-in_err-end-clause-device g c =
    let p = err_from_is_err_and c.from_residual-in_err-end.result c.from_residual-in_err-end.ensures.1 in
    let len = c.in_ok-size.ensures in
    let one = only_reads_call (Ok c.in_ok-size.size) _ _ len.counts (λ e. cc) len.passes len.stable len.loaded len.same in
    let two = OnlyReads-trans _ _ _ (g.D.Driver.meaning c.len.new.self) _ (λ f. cc) one c.in_ok-found.ensures.device in
    rw (p.1, p.2) (OnlyReads-trans _ _ _ (g.D.Driver.meaning c.read_label.new.driver) _ (λ f. cc) two (OnlyReads-listing {T = ℕ} c.in_err-end.field-0.0 _ _ c.in_err-end.ensures.faults c.in_err-end.ensures.device))

pub returns-in_err-end-clause-lists : goal.returns-in_err-end-clause-lists
returns-in_err-end-clause-lists g c =
    let p = err_from_is_err_and c.from_residual-in_err-end.result c.from_residual-in_err-end.ensures.1 in
    let len = c.in_ok-size.ensures in
    let found = c.in-Some.found in
    let read = c.in_ok-found.ensures in
    let name = c.args.name.now in
    let lists = c.in_err-end.ensures.lists in
    let start = (g.D.Driver.meaning c.args.driver.now).shelf in
    let mid = (g.D.Driver.meaning c.len.new.self).shelf in
    let then = (g.D.Driver.meaning c.read_label.new.driver).shelf in
    rw (p.1, p.2) (
      line (label_text found.label) ++ lists.0,
      says_then _ (said_view g.W.Write.contents c.line.new.self) _ (line (label_text found.label)) lists.0 c.line.ensures.says lists.1,
      form_given_up name c.in_err-end.field-0.0 (line (label_text found.label) ++ lists.0)
          (form_front name found.label lists.0 found.first (rw c.in-Some.is at read.label) (rw c.in-Some.is at read.named) (rw c.in-Some.is at read.first) lists.2),
      λ honest. (
          let tells = len.ok honest in
          let honest_1 = subst IsTrue (sym len.counts.honest) honest in
          let shows_1 = c.in_ok-reader.ensures.shows mid in
          let there_1 : mid.volume c.in_ok-reader.reader.name ≡ Some tells.held = ap mid.volume c.in_ok-reader.ensures.name ∙ (len.same honest _ ∙ tells.there) in
          let honest_2 = subst IsTrue (sym read.device.counted.honest) honest_1 in
          let there_2 : then.volume c.read_label.new.reader.name ≡ Some tells.held = ap then.volume read.name ∙ (read.device.same honest_1 _ ∙ there_1) in
          let begins = rw c.in-Some.is at (read.begins honest_1 shows_1 tells.held there_1) in
          let label_is = rw c.in-Some.is at read.label in
          let labelled : IsLabelled name tells.held.bytes found.label = record { label_is = label_is; name_is = rw c.in-Some.is at read.named; begins = begins } in
          let blocks = lists.3 honest_2 (read.shows honest_1 shows_1) tells.held there_2 tells.length_is found.label label_is (rw c.in-Some.is at read.first) begins in
          lists_given_up name (start.volume name) tells.held c.in_err-end.field-0.0 (line (label_text found.label) ++ lists.0) tells.there c.in_err-end.ensures.faults
          (λ e. there_and_gone (c.in_err-end.ensures.not_there honest_2 (ap Err e)) there_2)
          (lists_front name tells.held.bytes found.label blocks.0 blocks.1 lists.0 labelled blocks.2)
          ),
    )

pub returns-clause-device : goal.returns-clause-device
returns-clause-device g c =
    let len = c.in_ok-size.ensures in
    let one = only_reads_call (Ok c.in_ok-size.size) _ _ len.counts (λ e. cc) len.passes len.stable len.loaded len.same in
    let two = OnlyReads-trans _ _ _ (g.D.Driver.meaning c.len.new.self) _ (λ f. cc) one c.in_ok-found.ensures.device in
    OnlyReads-trans _ _ _ (g.D.Driver.meaning c.read_label.new.driver) _ (λ f. cc) two (OnlyReads-as _ _ _ _ (λ f. cc) (λ f. cc) c.in_ok-end.ensures.device)

pub returns-clause-lists : goal.returns-clause-lists
returns-clause-lists g c =
    let len = c.in_ok-size.ensures in
    let found = c.in-Some.found in
    let read = c.in_ok-found.ensures in
    let name = c.args.name.now in
    let lists = c.in_ok-end.ensures.lists in
    let count = c.in_ok-size.size - c.in_ok-end.end in
    let mid = (g.D.Driver.meaning c.len.new.self).shelf in
    let then = (g.D.Driver.meaning c.read_label.new.driver).shelf in (
      line (label_text found.label) ++ (lists.0 ++ line (tail_text count)),
      says_then _ (said_view g.W.Write.contents c.line.new.self) _ (line (label_text found.label)) (lists.0 ++ line (tail_text count)) c.line.ensures.says
          (says_then _ (said_view g.W.Write.contents c.list_blocks.new.out) _ lists.0 (line (tail_text count)) lists.1 c.line-2.ensures.says),
      (
        line (label_text found.label) ++ lists.0,
        count,
        form_front name found.label lists.0 found.first (rw c.in-Some.is at read.label) (rw c.in-Some.is at read.named) (rw c.in-Some.is at read.first) lists.2,
        sym (append_assoc (line (label_text found.label)) lists.0 (line (tail_text count))),
      ),
      λ honest. (
          let tells = len.ok honest in
          let honest_1 = subst IsTrue (sym len.counts.honest) honest in
          let shows_1 = c.in_ok-reader.ensures.shows mid in
          let there_1 : mid.volume c.in_ok-reader.reader.name ≡ Some tells.held = ap mid.volume c.in_ok-reader.ensures.name ∙ (len.same honest _ ∙ tells.there) in
          let honest_2 = subst IsTrue (sym read.device.counted.honest) honest_1 in
          let there_2 : then.volume c.read_label.new.reader.name ≡ Some tells.held = ap then.volume read.name ∙ (read.device.same honest_1 _ ∙ there_1) in
          let begins = rw c.in-Some.is at (read.begins honest_1 shows_1 tells.held there_1) in
          let label_is = rw c.in-Some.is at read.label in
          let labelled : IsLabelled name tells.held.bytes found.label = record { label_is = label_is; name_is = rw c.in-Some.is at read.named; begins = begins } in
          let blocks = lists.3 honest_2 (read.shows honest_1 shows_1) tells.held there_2 tells.length_is found.label label_is (rw c.in-Some.is at read.first) begins in
          (tells.held, tells.there, lists_whole name tells.held.bytes found.label c.in_ok-end.end blocks.0 lists.0 count labelled blocks.1 blocks.2 (omega (arith, c.in_ok-end.ensures.end, tells.length_is)))
          ),
    )
