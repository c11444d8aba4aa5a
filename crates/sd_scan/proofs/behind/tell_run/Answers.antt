use Rattle.std.proofs.Common.{◌++◌, [], arith}
use Rattle.std.proofs.lemmas.Result.{err_from_is_err_and}
use Rattle.sd_text.specs.Says.{said_view}
use Rattle.sd_text.proofs.SaysLemmas.{says_then}
use Rattle.sd_text.specs.Lines.{line}
use Rattle.sd_scan.specs.Lines.{told_text}
use Rattle.sd_scan.specs.declared.line.ScanLine.TheVariants.{Behind}
use Rattle.sd_scan.proofs.VolumeLemmas.{says_named, tells_run}
use Rattle.sd_volume.proofs.DeviceLemmas.{OnlyReads-as}
use Rattle.sd_scan.proofs.behind.tell_run.Goals as goal

pub returns-in_err-end-clause-device : goal.returns-in_err-end-clause-device
returns-in_err-end-clause-device g c =
    let p = err_from_is_err_and c.from_residual.result c.from_residual.ensures.1 in
    rw (p.1, p.2) c.in_err-end.ensures.device

pub returns-in_err-end-clause-tells : goal.returns-in_err-end-clause-tells
returns-in_err-end-clause-tells g c =
    let p = err_from_is_err_and c.from_residual.result c.from_residual.ensures.1 in
    rw p.1 (line (told_text c.args.told (Behind c.args.name.now c.args.whole.at)), (says_named (said_view g.W.Write.contents c.args.out.now) (said_view g.W.Write.contents c.line.new.self) (λ v. told_text c.args.told (Behind v c.args.whole.at)) c.copy.result c.args.name.now c.copy.ensures c.line.ensures.says), λ honest shows held there size key body begins. tt)

pub returns-in_err-print_sessions-clause-device : goal.returns-in_err-print_sessions-clause-device
returns-in_err-print_sessions-clause-device g c =
    let p = err_from_is_err_and c.from_residual-in_err-print_sessions.result c.from_residual-in_err-print_sessions.ensures.1 in
    rw (p.1, p.2) (OnlyReads-as _ _ _ _ (λ f. cc) (λ f. cc) c.in_ok-end.ensures.device)

pub returns-in_err-print_sessions-clause-tells : goal.returns-in_err-print_sessions-clause-tells
returns-in_err-print_sessions-clause-tells g c =
    let p = err_from_is_err_and c.from_residual-in_err-print_sessions.result c.from_residual-in_err-print_sessions.ensures.1 in
    let printed = c.in_err-print_sessions.ensures in
    rw p.1 (
      line (told_text c.args.told (Behind c.args.name.now c.args.whole.at)) ++ printed.0,
      says_then _ (said_view g.W.Write.contents c.line.new.self) _ (line (told_text c.args.told (Behind c.args.name.now c.args.whole.at))) printed.0 (says_named (said_view g.W.Write.contents c.args.out.now) (said_view g.W.Write.contents c.line.new.self) (λ v. told_text c.args.told (Behind v c.args.whole.at)) c.copy.result c.args.name.now c.copy.ensures c.line.ensures.says) printed.1,
      λ honest shows held there size key body begins. tt,
    )

pub returns-clause-goes_on : goal.returns-clause-goes_on
returns-clause-goes_on g c = omega (arith, c.end_behind.ensures)

pub returns-clause-device : goal.returns-clause-device
returns-clause-device g c = OnlyReads-as _ _ _ _ (λ f. cc) (λ f. cc) c.in_ok-end.ensures.device

pub returns-clause-tells : goal.returns-clause-tells
returns-clause-tells g c =
    let printed = c.in_ok-print_sessions.ensures in
    let takes = c.in_ok-end.ensures.takes in (
      line (told_text c.args.told (Behind c.args.name.now c.args.whole.at)) ++ printed.0,
      says_then _ (said_view g.W.Write.contents c.line.new.self) _ (line (told_text c.args.told (Behind c.args.name.now c.args.whole.at))) printed.0 (says_named (said_view g.W.Write.contents c.args.out.now) (said_view g.W.Write.contents c.line.new.self) (λ v. told_text c.args.told (Behind v c.args.whole.at)) c.copy.result c.args.name.now c.copy.ensures c.line.ensures.says) printed.1,
      λ honest shows held there size key body begins. (
          let found = takes.2 honest shows held there size in
          let told = printed.2 takes.0 (takes.1 [] c.new-sessions.ensures) in
          tells_run c.args.told c.args.name.now held.bytes c.args.whole.at c.args.whole.head.number c.in_ok-end.end c.end_behind.result takes.0 found.0 told.0 printed.0 key body found.1 found.2 told.1 told.2
          c.end_behind.ensures begins
          ),
    )
