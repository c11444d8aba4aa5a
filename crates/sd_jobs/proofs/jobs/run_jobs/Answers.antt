use denote.Param.Send.{sendable}
use Rattle.std.proofs.Common.{ℕ, List, sym, subst, ◌∙◌, arith}
use Rattle.sd_jobs.specs.Jobs.{FitPlaces}
use Rattle.sd_jobs.proofs.EachLemmas.{lines_fit}
use Rattle.sd_jobs.proofs.jobs.run_jobs.Goals as goal

pub scoped-ends-requires : goal.scoped-ends-requires
scoped-ends-requires g c =
    let jobs = c.args.jobs.items in
    let fit = subst (λ (places : List ℕ). FitPlaces places jobs) (sym (c.as_slice-places.ensures.value ∙ c.in-Ok.ensures)) (lines_fit c.args.lines.now jobs c.requires) in
    let many = c.args.jobs.ok.0 in
    let started = c.in-Ok-with_capacity.ensures in
    let ends = c.in-Ok-with_capacity-2.ensures in
    record {
      at = λ scope. (
        fit,
        (
          (started.items, omega (arith, many, started.capacity, c.len.ensures)),
          ((ends.items, omega (arith, many, ends.capacity, c.len-2.ensures)), (search sendable, search sendable, search sendable, search sendable, search sendable, search sendable)),
        ),
      );
    }
