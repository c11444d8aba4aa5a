use Rattle.std.proofs.Common.{◌++◌, [], arith}
use Rattle.std.proofs.lemmas.Result.{err_from_is_err_and}
use Rattle.sd_scan.specs.Sessions.{keys_in}
use Rattle.sd_text.specs.Says.{said_view}
use Rattle.sd_text.proofs.SaysLemmas.{says_none, says_then}
use Rattle.sd_scan.proofs.VolumeLemmas.{prints_all, prints_more, prints_none}
use Rattle.sd_scan.proofs.print.print_sessions.Goals as goal

pub loop-at-init : goal.loop-at-init
loop-at-init g c = ([], says_none _, λ found placements keeps. prints_none c.args.told found placements (keys_in c.args.sessions.now))

pub loop-at-preserved : goal.loop-at-preserved
loop-at-preserved g c =
    let so_far = c.loop-at.invariant in
    let printed = c.in_ok-print_report.ensures in (
      so_far.0 ++ printed.0,
      says_then _ (said_view g.W.Write.contents c.loop-at.out) _ so_far.0 printed.0 so_far.1 printed.1,
      λ found placements keeps.
          prints_more c.args.told found placements (keys_in c.args.sessions.now) c.loop-at.at so_far.0 c.loop-at.outcome c.of_report.result c.or_worse-outcome.result c.in_ok-report.report printed.0
          (so_far.2 found placements keeps) c.in_ok-report.ensures.key (c.in_ok-report.ensures.reports found placements keeps) printed.2 c.of_report.ensures c.or_worse-outcome.ensures,
    )

pub returns-in_err-report : goal.returns-in_err-report
returns-in_err-report g c =
    let p = err_from_is_err_and c.from_residual.result c.from_residual.ensures.1 in
    rw p.1 (c.loop-at.invariant.0, c.loop-at.invariant.1, tt)

pub returns-in_err-print_report : goal.returns-in_err-print_report
returns-in_err-print_report g c =
    let p = err_from_is_err_and c.from_residual-in_err-print_report.result c.from_residual-in_err-print_report.ensures.1 in
    let so_far = c.loop-at.invariant in
    let printed = c.in_err-print_report.ensures in
    rw p.1 (so_far.0 ++ printed.0, says_then _ (said_view g.W.Write.contents c.loop-at.out) _ so_far.0 printed.0 so_far.1 printed.1, tt)

pub returns : goal.returns
returns g c =
    let so_far = c.loop-at.invariant in (
      so_far.0,
      so_far.1,
      λ found keeps. prints_all c.args.told found keeps.0 c.args.sessions.now c.loop-at.at so_far.0 c.loop-at.outcome keeps.1 (omega (arith, c.loop-at-test.false, c.len-at-end.ensures)) (so_far.2 found keeps.0 keeps.1),
    )
