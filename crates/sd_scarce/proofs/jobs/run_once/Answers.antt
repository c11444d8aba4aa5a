use Rattle.std.proofs.Common.{ap, ◌∙◌, slice_get}
use Rattle.sd_scarce.proofs.jobs.run_once.Goals as goal

pub run_jobs-requires-after_bounds : goal.run_jobs-requires-after_bounds
run_jobs-requires-after_bounds g c κs within k job is =
    c.have_lines.ensures.yes c.if-not-have_lines.false k job (ap (λ l. slice_get l k) c.deref.ensures.value ∙ is)
