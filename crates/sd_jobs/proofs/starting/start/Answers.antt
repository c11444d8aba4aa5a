use Rattle.std.proofs.Common.{◌≡◌, ◌∙◌, sym, ap, subst}
use Rattle.std.specs.Prelude.{MatchResult}
use Rattle.sd_jobs.specs.Jobs.{JobIs, EndsJob}
use Rattle.sd_jobs.proofs.starting.start.Goals.{in-Ok, in-Err}
use Rattle.sd_jobs.proofs.starting.start.Goals as goal

pub invariant_of-result : goal.invariant_of-result
invariant_of-result g c = elim c.match-spawn_with.branch [
  | in-Ok w ↦ subst (λ t. MatchResult t (λ h. h.promise.0.value ≡ c.of-kept.result.value) (λ end. EndsJob c.of-kept.result.value end)) (sym w.thread-is)
      (ap (λ p. p.0.value) w.in-Ok.ensures.ok ∙ c.of.ensures ∙ sym c.of-kept.ensures)
  | in-Err w ↦ subst (λ t. MatchResult t (λ h. h.promise.0.value ≡ c.of-kept.result.value) (λ end. EndsJob c.of-kept.result.value end)) (sym w.thread-is)
      (subst (λ (job : JobIs). EndsJob job w.run.result) (ap (λ f. f.3) w.in-Err.ensures.err ∙ sym c.of-kept.ensures) w.run.ensures)
]
