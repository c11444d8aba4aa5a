use denote.Param.Send.{sendable}
use Rattle.std.proofs.Common.{ap, ◌∙◌, slice_get}
use Rattle.sd_moments.proofs.jobs.run_stopped.Goals as goal

pub scoped-ends-requires : goal.scoped-ends-requires
scoped-ends-requires g c = record {
  at = λ scope. (
    λ k job is. c.have_lines.ensures.yes c.if-not-have_lines.false k job (ap (λ l. slice_get l k) c.deref.ensures.value ∙ is),
    (search sendable, search sendable, search sendable),
  );
}
