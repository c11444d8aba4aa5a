use Rattle.sd_scan.specs.Lines.{broken_lines, cut_lines, found_of}
use Rattle.sd_text.proofs.SaysLemmas.{says_then}
use Rattle.sd_text.specs.Says.{said_view}
use Rattle.sd_scan.proofs.print.print_unsound.Goals as goal

pub returns : goal.returns
returns g c =
    let r = c.args.report.now in
    says_then _ (said_view g.W.Write.contents c.print_cut.new.out) _ (cut_lines c.args.told r.ended (found_of r)) (broken_lines c.args.told r.broken r.key) c.print_cut.ensures c.print_broken.ensures
