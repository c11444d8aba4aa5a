use Rattle.std.proofs.Common.{◌++◌, []}
use Rattle.std.proofs.lemmas.Result.{err_from_is_err_and}
use Rattle.sd_text.specs.Says.{said_view}
use Rattle.sd_text.proofs.SaysLemmas.{says_then}
use Rattle.sd_scan.proofs.VolumeLemmas.{looks_all}
use Rattle.sd_scan.proofs.volumes.look.Goals as goal

pub returns-in_err-printed-clause-looks : goal.returns-in_err-printed-clause-looks
returns-in_err-printed-clause-looks g c =
    let p = err_from_is_err_and c.from_residual-in_err-printed.result c.from_residual-in_err-printed.ensures.1 in
    let volumes = c.in_ok-undamaged.ensures.scans in
    let printed = c.in_err-printed.ensures in
    rw p.1 (volumes.0 ++ printed.0, says_then _ (said_view g.W.Write.contents c.scan_volumes.new.out) _ volumes.0 printed.0 volumes.1 printed.1, λ honest. tt)

pub returns-clause-looks : goal.returns-clause-looks
returns-clause-looks g c =
    let volumes = c.in_ok-undamaged.ensures.scans in
    let printed = c.in_ok-printed.ensures in
    let keeps = volumes.2.1 [] c.new-sessions.ensures in
    let told = printed.2 volumes.2.0 keeps in (
      volumes.0 ++ printed.0,
      says_then _ (said_view g.W.Write.contents c.scan_volumes.new.out) _ volumes.0 printed.0 volumes.1 printed.1,
      λ honest. looks_all c.args.told (g.D.Driver.meaning c.args.driver.now).shelf c.args.names.now volumes.0 printed.0 volumes.2.0 c.in_ok-undamaged.undamaged c.of_volumes.result c.in_ok-printed.printed told.0
          c.scan_volumes.new.sessions c.or_worse-outcome.result (volumes.2.2 honest) keeps told.1 told.2 told.3 c.of_volumes.ensures c.or_worse-outcome.ensures,
    )
