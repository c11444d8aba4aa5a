use Rattle.std.proofs.Common.{[], ◌++◌, ap, refl, ◌∙◌}
use Rattle.std.proofs.lemmas.Result.{err_from_is_err_and}
use Rattle.sd_text.specs.Says.{said_view}
use Rattle.sd_text.proofs.SaysLemmas.{says_none}
use Rattle.sd_span.specs.JobMedia.{jobmedia_text}
use Rattle.sd_scan.specs.Lines.{whole_lines}
use Rattle.sd_scan.proofs.VolumeLemmas.{prints_whole}
use Rattle.sd_scan.proofs.print.print_whole.Goals as goal

pub returns-in_err-put_jobmedia : goal.returns-in_err-put_jobmedia
returns-in_err-put_jobmedia g c =
    let p = err_from_is_err_and c.from_residual.result c.from_residual.ensures.1 in
    rw p.1 ([], says_none _, tt)

pub returns : goal.returns
returns g c =
    let r = c.args.report.now in
    let text = c.as_bytes.ensures.value ∙ c.in_ok-put_jobmedia.ensures.ok ∙ ap (λ l. l ++ jobmedia_text r.key c.as_slice.result.now) c.new-text.ensures.bytes
    ∙ ap (jobmedia_text r.key) c.as_slice.ensures in (
      whole_lines r,
      prints_whole _ (said_view g.W.Write.contents c.line.new.self) _ r c.of.result c.as_bytes.result.now c.of.ensures text c.line.ensures.says c.bytes.ensures.says,
      refl,
    )
