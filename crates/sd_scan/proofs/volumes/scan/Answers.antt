use Rattle.std.proofs.Common.{◌++◌, length}
use Rattle.sd_text.specs.Says.{said_view}
use Rattle.sd_text.proofs.SaysLemmas.{says_then}
use Rattle.sd_text.specs.Lines.{line}
use Rattle.sd_scan.specs.Lines.{told_text}
use Rattle.sd_scan.specs.Sessions.{keys_in}
use Rattle.sd_scan.specs.declared.line.ScanLine.TheVariants.{Done}
use Rattle.sd_scan.proofs.VolumeLemmas.{scans_all}
use Rattle.sd_scan.proofs.volumes.scan.Goals as goal

pub returns-clause-scans : goal.returns-clause-scans
returns-clause-scans g c =
    let looks = c.in_ok-scanned.ensures.looks in
    let scanned = c.in_ok-scanned.scanned in
    let last = line (told_text c.args.told (Done (length c.args.names.now) (length (keys_in scanned.sessions)))) in (
      looks.0 ++ last,
      says_then _ (said_view g.W.Write.contents c.look.new.out) _ looks.0 last looks.1 c.print_done.ensures,
      λ honest. scans_all c.args.told (g.D.Driver.meaning c.args.driver.now).shelf c.args.names.now looks.0 scanned.outcome scanned.sessions (looks.2 honest),
    )
