use Rattle.std.proofs.Common.{◌≡◌, ℕ, ◌++◌, [], arith, rules, refl, sym, ap, ◌∙◌, subst, Option, Some}
use Rattle.std.specs.Prelude.{IsTrue}
use Rattle.std.proofs.lemmas.Result.{err_from_is_err_and}
use Rattle.sd_text.specs.Says.{said_view}
use Rattle.sd_text.proofs.SaysLemmas.{says_none, says_then}
use Rattle.sd_volume.proofs.DeviceLemmas.{OnlyReads-trans, OnlyReads-as}
use Rattle.sd_scan.specs.Lines.{told_text}
use Rattle.sd_scan.specs.declared.line.ScanLine.TheVariants.{Damage}
use Rattle.sd_scan.specs.Run.{NoneBetween}
use Rattle.sd_scan.specs.Volume.{damage_line}
use Rattle.sd_scan.specs.declared.kind.Kind.{Kind}
use Rattle.sd_scan.specs.declared.search.Whole.{Whole}
use Rattle.sd_scan.proofs.FaultLemmas.{OnlyReads-again, OnlyReads-scan}
use Rattle.sd_scan.proofs.VolumeLemmas.{goes_damaged, goes_ended, goes_more, goes_none, says_named}
use Rattle.sd_scan.proofs.behind.tell_behind.Goals as goal

pub loop-from-init : goal.loop-from-init
loop-from-init g c = record {
  name = refl;
  device = search rules;
  shows = λ honest shows. shows;
  tells = ([], says_none _, λ honest shows held there size. goes_none c.args.told c.args.name.now held.bytes c.args.end);
}

pub loop-from-preserved : goal.loop-from-preserved
loop-from-preserved g c =
    let so_far = c.loop-from.invariant in
    let kind = c.in_ok-kind.ensures in
    let search = c.in_ok-whole.ensures in
    let run = c.in_ok-next.ensures in
    let volume_0 = (g.D.Driver.meaning c.loop-from.driver).shelf.volume in
    let volume_1 = (g.D.Driver.meaning c.kind_at.new.driver).shelf.volume in
    let volume_2 = (g.D.Driver.meaning c.next_whole.new.driver).shelf.volume in
    let lines = damage_line c.args.told c.args.name.now c.loop-from.from c.in_ok-kind.kind in
    record {
      name = run.name ∙ search.name ∙ kind.name ∙ so_far.name;
      device = OnlyReads-trans _ _ _ (g.D.Driver.meaning c.next_whole.new.driver) _ (λ n. n)
          (OnlyReads-trans _ _ _ (g.D.Driver.meaning c.kind_at.new.driver) _ (λ n. n)
          (OnlyReads-trans _ _ _ _ _ (λ n. n) so_far.device (OnlyReads-as _ _ _ _ (λ f. cc) (λ f. absurd f) kind.device))
          (OnlyReads-as _ _ _ _ (λ f. cc) (λ f. absurd f) search.device))
          (OnlyReads-as _ _ _ _ (λ f. cc) (λ f. absurd f) run.device);
      shows = λ honest shows.
          let honest_1 = subst IsTrue (sym so_far.device.counted.honest) honest in
          let honest_2 = subst IsTrue (sym kind.device.counted.honest) honest_1 in
          let honest_3 = subst IsTrue (sym search.device.counted.honest) honest_2 in
          run.shows honest_3 (search.shows honest_2 (kind.shows honest_1 (so_far.shows honest shows)));
      tells = (
        so_far.tells.0 ++ (lines ++ run.tells.0),
        says_then _ (said_view g.W.Write.contents c.loop-from.out) _ so_far.tells.0 (lines ++ run.tells.0) so_far.tells.1
            (says_then _ (said_view g.W.Write.contents c.line.new.self) _ lines run.tells.0 (says_named (said_view g.W.Write.contents c.loop-from.out) (said_view g.W.Write.contents c.line.new.self) (λ v. told_text c.args.told (Damage v c.loop-from.from c.in_ok-kind.kind)) c.copy.result c.args.name.now c.copy.ensures c.line.ensures.says) run.tells.1),
        λ honest shows held there size.
            let honest_1 = subst IsTrue (sym so_far.device.counted.honest) honest in
            let honest_2 = subst IsTrue (sym kind.device.counted.honest) honest_1 in
            let honest_3 = subst IsTrue (sym search.device.counted.honest) honest_2 in
            let shows_1 = so_far.shows honest shows in
            let shows_2 = kind.shows honest_1 shows_1 in
            let there_1 : volume_0 c.loop-from.reader.name ≡ Some held = ap volume_0 so_far.name ∙ (so_far.device.same honest _ ∙ there) in
            let there_2 : volume_1 c.kind_at.new.reader.name ≡ Some held = ap volume_1 kind.name ∙ (kind.device.same honest_1 _ ∙ there_1) in
            let there_3 : volume_2 c.next_whole.new.reader.name ≡ Some held = ap volume_2 search.name ∙ (search.device.same honest_2 _ ∙ there_2) in
            let first = rw c.in-Some.is at (search.found honest_2 shows_2 held there_2) in
            let told = run.tells.2 honest_3 (search.shows honest_2 shows_2) held there_3 size first.key first.body first.there in
            goes_more c.args.told c.args.name.now held.bytes c.args.end c.loop-from.from c.in_ok-next.next so_far.tells.0 run.tells.0 c.in_ok-kind.kind c.in-Some.whole.at c.in-Some.whole.head.number
            (so_far.tells.2 honest shows held there size) (omega (arith, c.loop-from-test.true, size)) (kind.kind honest_1 shows_1 held there_1 size) first told,
      );
    }

pub loop-from-smaller : goal.loop-from-smaller
loop-from-smaller g c =
    let within = rw c.in-Some.is at c.in_ok-whole.ensures.within in
    omega (arith, within.0, within.1, c.in_ok-next.ensures.goes_on, c.loop-from-test.true)

pub tell_run-requires-clause-within : goal.tell_run-requires-clause-within
tell_run-requires-clause-within g c = omega (arith, (rw c.in-Some.is at c.in_ok-whole.ensures.within).1)

pub returns-in_err-kind-clause-device : goal.returns-in_err-kind-clause-device
returns-in_err-kind-clause-device g c =
    let p = err_from_is_err_and c.from_residual.result c.from_residual.ensures.1 in
    rw (p.1, p.2) (OnlyReads-trans _ _ _ _ _ (λ n. n) c.loop-from.invariant.device (OnlyReads-scan {T = Kind} c.in_err-kind.field-0.0 _ _ c.in_err-kind.ensures.faults c.in_err-kind.ensures.device))

pub returns-in_err-kind-clause-tells : goal.returns-in_err-kind-clause-tells
returns-in_err-kind-clause-tells g c =
    let p = err_from_is_err_and c.from_residual.result c.from_residual.ensures.1 in
    let so_far = c.loop-from.invariant in
    rw p.1 (so_far.tells.0, so_far.tells.1, λ honest shows held there size. tt)

pub returns-in_err-whole-clause-device : goal.returns-in_err-whole-clause-device
returns-in_err-whole-clause-device g c =
    let p = err_from_is_err_and c.from_residual-in_err-whole.result c.from_residual-in_err-whole.ensures.1 in
    rw (p.1, p.2) (OnlyReads-trans _ _ _ (g.D.Driver.meaning c.kind_at.new.driver) _ (λ n. n)
    (OnlyReads-trans _ _ _ _ _ (λ n. n) c.loop-from.invariant.device (OnlyReads-as _ _ _ _ (λ f. cc) (λ f. absurd f) c.in_ok-kind.ensures.device))
    (OnlyReads-scan {T = Option Whole} c.in_err-whole.field-0.0 _ _ c.in_err-whole.ensures.faults c.in_err-whole.ensures.device))

pub returns-in_err-whole-clause-tells : goal.returns-in_err-whole-clause-tells
returns-in_err-whole-clause-tells g c =
    let p = err_from_is_err_and c.from_residual-in_err-whole.result c.from_residual-in_err-whole.ensures.1 in
    let so_far = c.loop-from.invariant in
    let lines = damage_line c.args.told c.args.name.now c.loop-from.from c.in_ok-kind.kind in
    rw p.1 (so_far.tells.0 ++ lines, says_then _ (said_view g.W.Write.contents c.loop-from.out) _ so_far.tells.0 lines so_far.tells.1 (says_named (said_view g.W.Write.contents c.loop-from.out) (said_view g.W.Write.contents c.line.new.self) (λ v. told_text c.args.told (Damage v c.loop-from.from c.in_ok-kind.kind)) c.copy.result c.args.name.now c.copy.ensures c.line.ensures.says), λ honest shows held there size. tt)

pub returns-in_err-next-clause-device : goal.returns-in_err-next-clause-device
returns-in_err-next-clause-device g c =
    let p = err_from_is_err_and c.from_residual-in_err-next.result c.from_residual-in_err-next.ensures.1 in
    rw (p.1, p.2) (OnlyReads-trans _ _ _ (g.D.Driver.meaning c.next_whole.new.driver) _ (λ n. n)
    (OnlyReads-trans _ _ _ (g.D.Driver.meaning c.kind_at.new.driver) _ (λ n. n)
    (OnlyReads-trans _ _ _ _ _ (λ n. n) c.loop-from.invariant.device (OnlyReads-as _ _ _ _ (λ f. cc) (λ f. absurd f) c.in_ok-kind.ensures.device))
    (OnlyReads-as _ _ _ _ (λ f. cc) (λ f. absurd f) c.in_ok-whole.ensures.device))
    (OnlyReads-again {T = ℕ} c.in_err-next.field-0.0 _ _ c.in_err-next.ensures.device))

pub returns-in_err-next-clause-tells : goal.returns-in_err-next-clause-tells
returns-in_err-next-clause-tells g c =
    let p = err_from_is_err_and c.from_residual-in_err-next.result c.from_residual-in_err-next.ensures.1 in
    let so_far = c.loop-from.invariant in
    let run = c.in_err-next.ensures in
    let lines = damage_line c.args.told c.args.name.now c.loop-from.from c.in_ok-kind.kind in
    rw p.1 (
      so_far.tells.0 ++ (lines ++ run.tells.0),
      says_then _ (said_view g.W.Write.contents c.loop-from.out) _ so_far.tells.0 (lines ++ run.tells.0) so_far.tells.1
          (says_then _ (said_view g.W.Write.contents c.line.new.self) _ lines run.tells.0 (says_named (said_view g.W.Write.contents c.loop-from.out) (said_view g.W.Write.contents c.line.new.self) (λ v. told_text c.args.told (Damage v c.loop-from.from c.in_ok-kind.kind)) c.copy.result c.args.name.now c.copy.ensures c.line.ensures.says) run.tells.1),
      λ honest shows held there size. tt,
    )

pub returns-in_default-clause-device : goal.returns-in_default-clause-device
returns-in_default-clause-device g c =
    OnlyReads-trans _ _ _ (g.D.Driver.meaning c.kind_at.new.driver) _ (λ n. n)
    (OnlyReads-trans _ _ _ _ _ (λ n. n) c.loop-from.invariant.device (OnlyReads-as _ _ _ _ (λ f. cc) (λ f. absurd f) c.in_ok-kind.ensures.device))
    (OnlyReads-as _ _ _ _ (λ f. cc) (λ f. cc) c.in_ok-whole.ensures.device)

pub returns-in_default-clause-tells : goal.returns-in_default-clause-tells
returns-in_default-clause-tells g c =
    let so_far = c.loop-from.invariant in
    let kind = c.in_ok-kind.ensures in
    let search = c.in_ok-whole.ensures in
    let volume_0 = (g.D.Driver.meaning c.loop-from.driver).shelf.volume in
    let volume_1 = (g.D.Driver.meaning c.kind_at.new.driver).shelf.volume in
    let lines = damage_line c.args.told c.args.name.now c.loop-from.from c.in_ok-kind.kind in (
      so_far.tells.0 ++ lines,
      says_then _ (said_view g.W.Write.contents c.loop-from.out) _ so_far.tells.0 lines so_far.tells.1 (says_named (said_view g.W.Write.contents c.loop-from.out) (said_view g.W.Write.contents c.line.new.self) (λ v. told_text c.args.told (Damage v c.loop-from.from c.in_ok-kind.kind)) c.copy.result c.args.name.now c.copy.ensures c.line.ensures.says),
      λ honest shows held there size.
          let honest_1 = subst IsTrue (sym so_far.device.counted.honest) honest in
          let honest_2 = subst IsTrue (sym kind.device.counted.honest) honest_1 in
          let shows_1 = so_far.shows honest shows in
          let there_1 : volume_0 c.loop-from.reader.name ≡ Some held = ap volume_0 so_far.name ∙ (so_far.device.same honest _ ∙ there) in
          let there_2 : volume_1 c.kind_at.new.reader.name ≡ Some held = ap volume_1 kind.name ∙ (kind.device.same honest_1 _ ∙ there_1) in
          let none = rw c.in_default.is at (search.none honest_2 (kind.shows honest_1 shows_1) held there_2) in
          goes_damaged c.args.told c.args.name.now held.bytes c.args.end c.loop-from.from so_far.tells.0 c.in_ok-kind.kind (so_far.tells.2 honest shows held there size)
          (omega (arith, c.loop-from-test.true, size)) (kind.kind honest_1 shows_1 held there_1 size) (subst (λ n. NoneBetween held.bytes c.loop-from.from n) size none),
    )

pub returns-clause-device : goal.returns-clause-device
returns-clause-device g c = OnlyReads-as _ _ _ _ (λ f. absurd f) (λ f. cc) c.loop-from.invariant.device

pub returns-clause-tells : goal.returns-clause-tells
returns-clause-tells g c =
    let so_far = c.loop-from.invariant in (
      so_far.tells.0,
      so_far.tells.1,
      λ honest shows held there size. goes_ended c.args.told c.args.name.now held.bytes c.args.end c.loop-from.from so_far.tells.0 (so_far.tells.2 honest shows held there size) (omega (arith, c.loop-from-test.false, size)),
    )
