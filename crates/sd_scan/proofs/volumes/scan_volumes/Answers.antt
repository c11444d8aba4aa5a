use Rattle.std.proofs.Common.{◌++◌, [], ℕ, List, length, take, rules, refl, sym, subst}
use Rattle.std.specs.Prelude.{IsTrue}
use Rattle.std.proofs.lemmas.Option.{slice_get_read}
use Rattle.std.proofs.lemmas.Result.{err_from_is_err_and}
use Rattle.sd_text.specs.Says.{said_view}
use Rattle.sd_text.proofs.SaysLemmas.{says_none, says_then}
use Rattle.sd_volume.proofs.DeviceLemmas.{OnlyReads-trans, OnlyReads-as}
use Rattle.sd_scan.specs.Scan.{ScansVolumes}
use Rattle.sd_scan.proofs.RunLemmas.{keeps_none}
use Rattle.sd_scan.proofs.VolumeLemmas.{keeps_join, scan_same, take_one, volumes_more}
use Rattle.sd_scan.proofs.volumes.scan_volumes.Goals as goal

pub loop-name-init : goal.loop-name-init
loop-name-init g c = record {
  device = search rules;
  scans = ([], says_none _, ([], keeps_none c.args.sessions.now, λ honest. (refl, refl, refl)));
}

pub loop-name-preserved : goal.loop-name-preserved
loop-name-preserved g c =
    let so_far = c.loop-name.invariant in
    let scan = c.in_ok-whole.ensures.scans in
    let names = c.args.names.now in
    let old = (g.D.Driver.meaning c.args.driver.now).shelf in
    let now = (g.D.Driver.meaning c.loop-name.driver).shelf in
    let there = slice_get_read names (length names) c.loop-name.name-index c.name-item.result refl c.loop-name-test.true c.name-item.is in
    record {
      device = OnlyReads-trans _ _ _ _ _ (λ n. n) so_far.device (OnlyReads-as _ _ _ _ (λ f. cc) (λ f. absurd f) c.in_ok-whole.ensures.device);
      scans = (
        so_far.scans.0 ++ scan.0,
        says_then _ (said_view g.W.Write.contents c.loop-name.out) _ so_far.scans.0 scan.0 so_far.scans.1 scan.1,
        (
          so_far.scans.2.0 ++ scan.2.0,
          λ found keeps. keeps_join found so_far.scans.2.0 scan.2.0 c.scan_volume.new.sessions (scan.2.1 (found ++ so_far.scans.2.0) (so_far.scans.2.1 found keeps)),
          λ honest. (
              let one = scan_same c.args.told old now c.name-item.result scan.2.0 scan.0 c.in_ok-whole.whole (so_far.device.same honest c.name-item.result)
              (scan.2.2 (subst IsTrue (sym so_far.device.counted.honest) honest)) in
              subst (λ (ns : List (List ℕ)). ScansVolumes c.args.told old ns (so_far.scans.2.0 ++ scan.2.0) (so_far.scans.0 ++ scan.0) c.both-undamaged.result)
              (sym (take_one names c.loop-name.name-index c.name-item.result there))
              (volumes_more c.args.told old (take c.loop-name.name-index names) c.name-item.result so_far.scans.2.0 scan.2.0 so_far.scans.0 scan.0 c.loop-name.undamaged c.in_ok-whole.whole c.both-undamaged.result
              (so_far.scans.2.2 honest) one c.both-undamaged.ensures)
              ),
        ),
      );
    }

pub returns-in_err-whole-clause-device : goal.returns-in_err-whole-clause-device
returns-in_err-whole-clause-device g c =
    let p = err_from_is_err_and c.from_residual.result c.from_residual.ensures.1 in
    rw (p.1, p.2) (OnlyReads-trans _ _ _ _ _ (λ n. n) c.loop-name.invariant.device c.in_err-whole.ensures.device)

pub returns-in_err-whole-clause-scans : goal.returns-in_err-whole-clause-scans
returns-in_err-whole-clause-scans g c =
    let p = err_from_is_err_and c.from_residual.result c.from_residual.ensures.1 in
    let so_far = c.loop-name.invariant in
    let scan = c.in_err-whole.ensures.scans in
    rw p.1 (so_far.scans.0 ++ scan.0, says_then _ (said_view g.W.Write.contents c.loop-name.out) _ so_far.scans.0 scan.0 so_far.scans.1 scan.1, tt)
