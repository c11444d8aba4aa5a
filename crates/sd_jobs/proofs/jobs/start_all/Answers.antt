use Rattle.std.proofs.Common.{◌≡◌, ◌<◌, ◌++◌, [], sym, ap, subst, ◌∙◌, arith, length, slice_get, append-nil}
use Rattle.std.proofs.lemmas.List.{nil_from_length}
use Rattle.std.specs.Vec.Iter.{into_iter_items}
use Rattle.sd_jobs.specs.Jobs.{JobIs}
use Rattle.sd_jobs.proofs.EachLemmas.{get_below, next_is}
use Rattle.sd_jobs.proofs.jobs.start_all.Goals as goal

pub place_at-place-requires : goal.place_at-place-requires
place_at-place-requires g c =
    let line = ap (λ (j : JobIs). j.line) (sym c.job.view_is) in
    subst (λ n. n < length c.args.places.now) line
    (get_below c.args.places.now c.in-Some.job.line _ (c.requires.fit (length c.loop-job.started.items) c.in-Some.job (next_is c.args.jobs.items c.loop-job.started.items (into_iter_items c.loop-job.job-iterator) (into_iter_items c.next.new.self) c.in-Some.job c.loop-job.invariant.each c.in-Some.ensures.steps.0)))

pub start-one-requires-after_bounds : goal.start-one-requires-after_bounds
start-one-requires-after_bounds g c κs within =
    let line = ap (λ (j : JobIs). j.line) (sym c.job.view_is) in
    let fit = c.requires.fit (length c.loop-job.started.items) c.in-Some.job (next_is c.args.jobs.items c.loop-job.started.items (into_iter_items c.loop-job.job-iterator) (into_iter_items c.next.new.self) c.in-Some.job c.loop-job.invariant.each c.in-Some.ensures.steps.0) in
    cc (sym fit ∙ ap (slice_get c.args.places.now) line ∙ c.place_at-place.ensures)

pub returns : goal.returns
returns g c =
    let i = c.loop-job.invariant in
    let it = c.loop-job.job-iterator in
    let done : into_iter_items it ≡ [] = nil_from_length (into_iter_items it) (omega (arith, it.rest.ok.0, c.in-None.ensures.steps.0)) in
    sym (i.each ∙ ap (λ l. c.loop-job.started.items ++ l) done ∙ append-nil c.loop-job.started.items)
