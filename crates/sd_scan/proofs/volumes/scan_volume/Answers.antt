use Rattle.std.proofs.Common.{◌≡◌, ◌++◌, [], ℕ, sym, ap, ◌∙◌, subst, Some, Ok, Err}
use Rattle.std.specs.Prelude.{IsTrue, nat_eq}
use Rattle.std.proofs.lemmas.Result.{err_from_is_err_and}
use Rattle.sd_text.specs.Says.{said_view}
use Rattle.sd_text.proofs.SaysLemmas.{says_none, says_then}
use Rattle.sd_volume.proofs.DeviceLemmas.{OnlyReads-trans, OnlyReads-as, only_reads_call}
use Rattle.sd_text.specs.Lines.{line}
use Rattle.sd_scan.specs.Lines.{told_text}
use Rattle.sd_scan.specs.declared.line.ScanLine.TheVariants.{Volume}
use Rattle.sd_scan.proofs.FaultLemmas.{OnlyReads-again, OnlyReads-scan}
use Rattle.sd_files.proofs.ListingLemmas.{fault_is}
use Rattle.sd_scan.proofs.VolumeLemmas.{says_named}
use Rattle.sd_scan.proofs.volumes.scan_volume.Goals as goal

pub returns-in_err-size-clause-device : goal.returns-in_err-size-clause-device
returns-in_err-size-clause-device g c =
    let p = err_from_is_err_and c.from_residual.result c.from_residual.ensures.1 in
    let len = c.in_err-size.ensures in
    rw (p.1, p.2) (OnlyReads-scan {T = ℕ} c.in_err-size.field-0.0 _ _ len.faults (only_reads_call (Err c.in_err-size.field-0.0) _ _ len.counts (λ e. len.faults.1 (fault_is e)) len.passes len.stable len.loaded len.same))

pub returns-in_err-size-clause-scans : goal.returns-in_err-size-clause-scans
returns-in_err-size-clause-scans g c =
    let p = err_from_is_err_and c.from_residual.result c.from_residual.ensures.1 in
    rw p.1 ([], says_none _, tt)

pub returns-in_err-reader-clause-device : goal.returns-in_err-reader-clause-device
returns-in_err-reader-clause-device g c =
    let p = err_from_is_err_and c.from_residual-in_err-reader.result c.from_residual-in_err-reader.ensures.1 in
    let len = c.in_ok-size.ensures in
    rw (p.1, p.2) (OnlyReads-as _ _ _ _ (λ f. cc) (λ f. cc) (only_reads_call (Ok c.in_ok-size.size) _ _ len.counts (λ e. cc) len.passes len.stable len.loaded len.same))

pub returns-in_err-reader-clause-scans : goal.returns-in_err-reader-clause-scans
returns-in_err-reader-clause-scans g c =
    let p = err_from_is_err_and c.from_residual-in_err-reader.result c.from_residual-in_err-reader.ensures.1 in
    rw p.1 ([], says_none _, tt)

pub returns-in_err-end-clause-device : goal.returns-in_err-end-clause-device
returns-in_err-end-clause-device g c =
    let p = err_from_is_err_and c.from_residual-in_err-end.result c.from_residual-in_err-end.ensures.1 in
    let len = c.in_ok-size.ensures in
    rw (p.1, p.2) (OnlyReads-trans _ _ _ (g.D.Driver.meaning c.len.new.self) _ (λ f. cc)
    (only_reads_call (Ok c.in_ok-size.size) _ _ len.counts (λ e. cc) len.passes len.stable len.loaded len.same) (OnlyReads-again {T = ℕ} c.in_err-end.field-0.0 _ _ c.in_err-end.ensures.device))

pub returns-in_err-end-clause-scans : goal.returns-in_err-end-clause-scans
returns-in_err-end-clause-scans g c =
    let p = err_from_is_err_and c.from_residual-in_err-end.result c.from_residual-in_err-end.ensures.1 in
    rw p.1 (line (told_text c.args.told (Volume c.args.name.now c.in_ok-size.size)), (says_named (said_view g.W.Write.contents c.args.out.now) (said_view g.W.Write.contents c.line.new.self) (λ v. told_text c.args.told (Volume v c.in_ok-size.size)) c.copy.result c.args.name.now c.copy.ensures c.line.ensures.says), tt)

pub returns-in_err-tell_behind-clause-device : goal.returns-in_err-tell_behind-clause-device
returns-in_err-tell_behind-clause-device g c =
    let p = err_from_is_err_and c.from_residual-in_err-tell_behind.result c.from_residual-in_err-tell_behind.ensures.1 in
    let len = c.in_ok-size.ensures in
    rw (p.1, p.2) (OnlyReads-trans _ _ _ (g.D.Driver.meaning c.take_image.new.driver) _ (λ f. cc)
    (OnlyReads-trans _ _ _ (g.D.Driver.meaning c.len.new.self) _ (λ f. cc)
    (only_reads_call (Ok c.in_ok-size.size) _ _ len.counts (λ e. cc) len.passes len.stable len.loaded len.same) c.in_ok-end.ensures.device)
    (OnlyReads-again {T = Unit {0}} c.in_err-tell_behind.field-0.0 _ _ c.in_err-tell_behind.ensures.device))

pub returns-in_err-tell_behind-clause-scans : goal.returns-in_err-tell_behind-clause-scans
returns-in_err-tell_behind-clause-scans g c =
    let p = err_from_is_err_and c.from_residual-in_err-tell_behind.result c.from_residual-in_err-tell_behind.ensures.1 in
    let tells = c.in_err-tell_behind.ensures.tells in
    let first = line (told_text c.args.told (Volume c.args.name.now c.in_ok-size.size)) in
    rw p.1 (first ++ tells.0, says_then _ (said_view g.W.Write.contents c.line.new.self) _ first tells.0 (says_named (said_view g.W.Write.contents c.args.out.now) (said_view g.W.Write.contents c.line.new.self) (λ v. told_text c.args.told (Volume v c.in_ok-size.size)) c.copy.result c.args.name.now c.copy.ensures c.line.ensures.says) tells.1, tt)

pub returns-clause-device : goal.returns-clause-device
returns-clause-device g c =
    let len = c.in_ok-size.ensures in
    OnlyReads-trans _ _ _ (g.D.Driver.meaning c.take_image.new.driver) _ (λ f. cc)
    (OnlyReads-trans _ _ _ (g.D.Driver.meaning c.len.new.self) _ (λ f. cc)
    (only_reads_call (Ok c.in_ok-size.size) _ _ len.counts (λ e. cc) len.passes len.stable len.loaded len.same) c.in_ok-end.ensures.device)
    (OnlyReads-as _ _ _ _ (λ f. cc) (λ f. cc) c.in_ok-tell_behind.ensures.device)

pub returns-clause-scans : goal.returns-clause-scans
returns-clause-scans g c =
    let len = c.in_ok-size.ensures in
    let image = c.in_ok-end.ensures in
    let tells = c.in_ok-tell_behind.ensures.tells in
    let first = line (told_text c.args.told (Volume c.args.name.now c.in_ok-size.size)) in
    let volume_1 = (g.D.Driver.meaning c.len.new.self).shelf.volume in
    let volume_2 = (g.D.Driver.meaning c.take_image.new.driver).shelf.volume in (
      first ++ tells.0,
      says_then _ (said_view g.W.Write.contents c.line.new.self) _ first tells.0 (says_named (said_view g.W.Write.contents c.args.out.now) (said_view g.W.Write.contents c.line.new.self) (λ v. told_text c.args.told (Volume v c.in_ok-size.size)) c.copy.result c.args.name.now c.copy.ensures c.line.ensures.says) tells.1,
      (
        image.takes.0,
        image.takes.1,
        λ honest.
            let told = len.ok honest in
            let honest_1 = subst IsTrue (sym len.counts.honest) honest in
            let honest_2 = subst IsTrue (sym image.device.counted.honest) honest_1 in
            let shows_1 = c.in_ok-reader.ensures.shows (g.D.Driver.meaning c.len.new.self).shelf in
            let there_1 : volume_1 c.in_ok-reader.reader.name ≡ Some told.held = ap volume_1 c.in_ok-reader.ensures.name ∙ (len.same honest _ ∙ told.there) in
            let there_2 : volume_2 c.take_image.new.reader.name ≡ Some told.held = ap volume_2 image.name ∙ (image.device.same honest_1 _ ∙ there_1) in
            let finds = image.takes.2 honest_1 shows_1 told.held there_1 told.length_is in
            let behind = tells.2 honest_2 (image.shows honest_1 shows_1) told.held there_2 told.length_is in
            record {
              held = told.held;
              there = told.there;
              end = c.in_ok-end.end;
              finds = finds;
              regions = behind.0;
              behind = tells.0;
              tells = behind.1;
              due_is = ap (λ (n : ℕ). line (told_text c.args.told (Volume c.args.name.now n)) ++ tells.0) told.length_is;
              undamaged_is = ap (nat_eq c.in_ok-end.end) told.length_is;
            },
      ),
    )
