use Rattle.std.proofs.Common.{sym, ap, ◌∙◌, slice_get}
use Rattle.sd_returned.proofs.returned.run_on.Goals as goal

pub run_jobs-requires-after_bounds : goal.run_jobs-requires-after_bounds
run_jobs-requires-after_bounds g c κs within k job is =
    let h = c.have_lines.ensures.yes c.if-not-have_lines.false k job (ap (λ l. slice_get l k) c.deref-2.ensures.value ∙ is) in
    (h.0, ap (λ l. slice_get l job.line) (c.deref-3.ensures.value ∙ sym c.deref.ensures.value) ∙ h.1, h.2)
